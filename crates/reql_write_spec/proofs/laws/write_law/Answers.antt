use Rattle.reql_write_spec.proofs.Counted.{counts_add_up, errors_are_told, lists_tell}
use Rattle.reql_write_spec.proofs.Treated.{changes_come, changes_leave_good, good_tables_stay}
use Rattle.reql_write_spec.proofs.laws.write_law.Goals as goal

pub returns : goal.returns
returns c = record { come = changes_come; counts = counts_add_up; errors = errors_are_told; lists = lists_tell; leave = changes_leave_good; good = good_tables_stay }
