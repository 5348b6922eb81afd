use Rattle.reql_journal.proofs.Recovering.{fronts_are_recovered}
use Rattle.reql_journal.proofs.Running.{commands_are_safe}
use Rattle.reql_journal.proofs.laws.commands_are_safe.Goals as goal

pub returns-clause-fronts : goal.returns-clause-fronts
returns-clause-fronts c = fronts_are_recovered c.records_are_read_back.ensures c.bytes_are_read_one_way.ensures.once

pub returns-clause-safe : goal.returns-clause-safe
returns-clause-safe c = commands_are_safe (fronts_are_recovered c.records_are_read_back.ensures c.bytes_are_read_one_way.ensures.once) c.crashes_leave_a_front.ensures.safe
