use Rattle.reql_query_session_spec.proofs.Feeds.{all_faulty_feeds_are_refused, all_crowded_feeds_are_refused, all_next_feeds_are_run, all_open_feeds_are_told, all_denied_feeds_are_closed}
use Rattle.reql_query_session_spec.proofs.laws.changes_are_answered.Goals as goal

pub returns-clause-faulty : goal.returns-clause-faulty
returns-clause-faulty c = all_faulty_feeds_are_refused

pub returns-clause-crowded : goal.returns-clause-crowded
returns-clause-crowded c = all_crowded_feeds_are_refused

pub returns-clause-asked : goal.returns-clause-asked
returns-clause-asked c = all_next_feeds_are_run

pub returns-clause-opened : goal.returns-clause-opened
returns-clause-opened c = all_open_feeds_are_told

pub returns-clause-denied : goal.returns-clause-denied
returns-clause-denied c = all_denied_feeds_are_closed
