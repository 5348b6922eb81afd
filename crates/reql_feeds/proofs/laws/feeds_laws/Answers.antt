use Rattle.reql_feeds.proofs.Machine.{changes_lead}
use Rattle.reql_feeds.proofs.laws.feeds_laws.Goals as goal

pub returns-clause-lead : goal.returns-clause-lead
returns-clause-lead c = changes_lead
