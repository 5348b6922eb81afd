use Rattle.std.proofs.Common.{◌≡◌, drop, map}
use Rattle.reql_table.specs.Seen.{documents_of, indexes_of}
use Rattle.reql_table_spec.specs.Engines.{kept_of}
use Rattle.reql_table_records.specs.Standing.{with_changes}
use Rattle.reql_restore.proofs.table.make_changes.Given as goal

abbrev pub invariant-loop-change : goal.invariant-loop-change
invariant-loop-change l = record {
  rest : with_changes (documents_of l.table) (map kept_of (drop l.change-index l.changes)) ≡ with_changes (documents_of l.initial.table) (map kept_of l.changes);
  indexes : indexes_of l.table ≡ indexes_of l.initial.table;
}
