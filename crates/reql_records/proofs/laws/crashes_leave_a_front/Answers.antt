use Rattle.reql_records.proofs.Promise.{opened_trusts, crash_safe, read_back}
use Rattle.reql_records.proofs.laws.crashes_leave_a_front.Goals as goal

pub returns-clause-opened : goal.returns-clause-opened
returns-clause-opened c = opened_trusts

pub returns-clause-safe : goal.returns-clause-safe
returns-clause-safe c = crash_safe

pub returns-clause-read : goal.returns-clause-read
returns-clause-read c = read_back
