use Rattle.std.proofs.Common.{◌≡◌, List, drop, map}
use Rattle.std.specs.List.{AllByRecursion}
use Rattle.reql_term.specs.Views.{Document}
use Rattle.reql_table.specs.Seen.{numbered, IsFiled}
use Rattle.reql_table.specs.Trees.{index_tree}
use Rattle.reql_table.proofs.trees.tree_in.Given as goal

abbrev pub invariant-loop-index : goal.invariant-loop-index
invariant-loop-index l =
    ((docs : List Document) → index_tree docs l.number (map numbered l.indexes) ≡ index_tree docs l.number (map numbered (drop l.index-index l.indexes)))
    × ((docs : List Document) → AllByRecursion (IsFiled docs) l.indexes → AllByRecursion (IsFiled docs) (drop l.index-index l.indexes))
