use Rattle.std.proofs.Common.{◌≡◌, map, take}
use Rattle.std.specs.List.{AllByRecursion}
use Rattle.reql_write_spec.specs.Treated.{changed_by}
use Rattle.reql_table.specs.Edits.{told}
use Rattle.reql_table.specs.Seen.{documents_of, numbered_of, numbered, IsFiled}
use Rattle.reql_table.proofs.table.Table.with_changes.Given as goal

abbrev pub invariant-loop-change : goal.invariant-loop-change
invariant-loop-change l =
    (map numbered l.indexes.items ≡ numbered_of l.self)
    × AllByRecursion (IsFiled (changed_by (documents_of l.self) (take l.change-index (map told l.changes)))) l.indexes.items
