use Rattle.std.proofs.Common.{◌≡◌, List, drop, map}
use Rattle.std.specs.List.{AllByRecursion}
use Rattle.reql_datum.specs.Members.{find}
use Rattle.reql_term.specs.Views.{Document}
use Rattle.reql_table.specs.Seen.{unnumbered, numbered, IsFiled}
use Rattle.reql_table.proofs.table.find_in.Given as goal

abbrev pub invariant-loop-index : goal.invariant-loop-index
invariant-loop-index l =
    (find l.name (unnumbered (map numbered l.indexes)) ≡ find l.name (unnumbered (map numbered (drop l.index-index l.indexes))))
    × (find l.name (map numbered l.indexes) ≡ find l.name (map numbered (drop l.index-index l.indexes)))
    × ((docs : List Document) → AllByRecursion (IsFiled docs) l.indexes → AllByRecursion (IsFiled docs) (drop l.index-index l.indexes))
