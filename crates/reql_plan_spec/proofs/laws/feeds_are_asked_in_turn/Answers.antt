use Rattle.reql_plan_spec.proofs.Asked.{feeds_are_asked_in_turn, no_other_feeds_are_asked, each_is_of_its_term, feeds_end_with_their_own}
use Rattle.reql_plan_spec.proofs.laws.feeds_are_asked_in_turn.Goals as goal

pub returns-clause-feeds : goal.returns-clause-feeds
returns-clause-feeds c = feeds_are_asked_in_turn

pub returns-clause-others : goal.returns-clause-others
returns-clause-others c = no_other_feeds_are_asked

pub returns-clause-each : goal.returns-clause-each
returns-clause-each c = each_is_of_its_term

pub returns-clause-ends : goal.returns-clause-ends
returns-clause-ends c = feeds_end_with_their_own
