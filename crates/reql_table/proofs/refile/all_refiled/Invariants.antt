use Rattle.std.proofs.Common.{◌≡◌, ◌++◌, List, map}
use Rattle.std.specs.List.{AllByRecursion}
use Rattle.std.specs.Vec.Iter.{into_iter_items}
use Rattle.reql_ptree.specs.Pairs.{AreRising, find}
use Rattle.reql_term.specs.Views.{Document}
use Rattle.reql_table.specs.Edits.{key_at, seen_if, turned}
use Rattle.reql_table.specs.Seen.{numbered, IsFiled}
use Rattle.reql_table.proofs.refile.all_refiled.Given as goal

abbrev pub invariant-loop-index : goal.invariant-loop-index
invariant-loop-index l =
    (map numbered l.all.items ++ map numbered (into_iter_items l.index-iterator) ≡ map numbered (into_iter_items l.initial.index-iterator))
    × ((docs : List Document) → AreRising docs → find (key_at l.turn) docs ≡ seen_if l.turn.old → AllByRecursion (IsFiled docs) (into_iter_items l.initial.index-iterator)
    → AllByRecursion (IsFiled (turned l.turn docs)) l.all.items × AllByRecursion (IsFiled docs) (into_iter_items l.index-iterator))
