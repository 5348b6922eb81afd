-- What counts by itself in a summary.
use Rattle.std.specs.Prelude.{Bool, true, false}
use Rattle.reql_write_spec.specs.Treated.{Treated, failed}
use Rattle.reql_write_spec.specs.Write.{is_inserted, is_replaced, is_deleted, is_unchanged, is_skipped}
use Rattle.reql_write.specs.declared.counting.Outcome.{Outcome}
use Rattle.reql_write.specs.declared.counting.Outcome.TheVariants as o

abbrev pub is_failed : Treated → Bool
is_failed (failed why old) = true
is_failed t = false

abbrev pub is_of : Outcome → Treated → Bool
is_of o.Deleted = is_deleted
is_of o.Failed = is_failed
is_of o.Inserted = is_inserted
is_of o.Replaced = is_replaced
is_of o.Skipped = is_skipped
is_of o.Unchanged = is_unchanged
