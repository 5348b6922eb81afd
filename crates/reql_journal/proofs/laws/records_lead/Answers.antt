use Rattle.reql_journal.proofs.Leading.{commands_lead, histories_lead}
use Rattle.reql_journal.proofs.laws.records_lead.Goals as goal

pub returns-clause-commands : goal.returns-clause-commands
returns-clause-commands c = commands_lead c.write_law.ensures.come c.write_law.ensures.leave

pub returns-clause-histories : goal.returns-clause-histories
returns-clause-histories c = histories_lead c.write_law.ensures.come c.write_law.ensures.leave
