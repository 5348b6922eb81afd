use Rattle.std.proofs.Common.{◌≡◌, drop, map}
use Rattle.reql_write_spec.specs.Treated.{changed_by}
use Rattle.reql_table.specs.Edits.{told}
use Rattle.reql_table.specs.Seen.{documents_of}
use Rattle.reql_table.proofs.table.Table.prepare.Given as goal

abbrev pub invariant-loop-change : goal.invariant-loop-change
invariant-loop-change l =
    (changed_by (documents_of l.table) (map told (drop l.change-index l.changes)) ≡ changed_by (documents_of l.self) (map told l.changes))
    × (l.table.1 ≡ l.self.1)
