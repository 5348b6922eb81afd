use Rattle.reql_plan_spec.proofs.Answering.{faulty_feeds_are_refused, crowded_feeds_are_refused, next_feed_is_asked, open_feeds_are_told, denied_feeds_are_closed}
use Rattle.reql_plan_spec.proofs.laws.changes_are_answered.Goals as goal

pub returns-clause-faulty : goal.returns-clause-faulty
returns-clause-faulty c = faulty_feeds_are_refused

pub returns-clause-crowded : goal.returns-clause-crowded
returns-clause-crowded c = crowded_feeds_are_refused

pub returns-clause-asked : goal.returns-clause-asked
returns-clause-asked c = next_feed_is_asked

pub returns-clause-opened : goal.returns-clause-opened
returns-clause-opened c = open_feeds_are_told

pub returns-clause-denied : goal.returns-clause-denied
returns-clause-denied c = denied_feeds_are_closed
