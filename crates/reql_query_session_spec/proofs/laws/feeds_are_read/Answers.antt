use Rattle.reql_query_session_spec.proofs.Feeds.{all_feeds_are_read, all_feeds_are_theirs, all_feeds_are_asked_in_turn, all_run_no_other_feeds, all_feeds_end_with_their_own}
use Rattle.reql_query_session_spec.proofs.laws.feeds_are_read.Goals as goal

pub returns-clause-read : goal.returns-clause-read
returns-clause-read c = all_feeds_are_read

pub returns-clause-theirs : goal.returns-clause-theirs
returns-clause-theirs c = all_feeds_are_theirs

pub returns-clause-turn : goal.returns-clause-turn
returns-clause-turn c = all_feeds_are_asked_in_turn

pub returns-clause-others : goal.returns-clause-others
returns-clause-others c = all_run_no_other_feeds

pub returns-clause-ends : goal.returns-clause-ends
returns-clause-ends c = all_feeds_end_with_their_own
