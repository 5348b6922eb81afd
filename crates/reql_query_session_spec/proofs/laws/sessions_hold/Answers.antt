use Rattle.reql_session_spec.proofs.Answering as answering
use Rattle.reql_session_spec.proofs.Closings as closings
use Rattle.reql_session_spec.proofs.Counts as counts
use Rattle.reql_session_spec.proofs.Idling.{nothing_was_there}
use Rattle.reql_session_spec.proofs.Feeding.{session_fed, session_tells}
use Rattle.reql_session_spec.proofs.Orders.{handled}
use Rattle.reql_session_spec.proofs.Rests as rests
use Rattle.reql_session_spec.proofs.Rolling as rolling
use Rattle.reql_session_spec.proofs.Unsent as unsent
use Rattle.reql_session_spec.proofs.Upward as upward
use Rattle.reql_query_session_spec.specs.Told.{talk, comes_by}
use Rattle.reql_query_session_spec.specs.Minding.{plans_are_told}
use Rattle.reql_query_session_spec.proofs.laws.sessions_hold.Goals as goal

pub returns-clause-in_order : goal.returns-clause-in_order
returns-clause-in_order c = λ keys limits. handled (talk keys limits)

pub returns-clause-frames_handled : goal.returns-clause-frames_handled
returns-clause-frames_handled c = λ keys limits. rests.frames_handled (talk keys limits)

pub returns-clause-login_rolls_first : goal.returns-clause-login_rolls_first
returns-clause-login_rolls_first c = λ keys limits. rolling.login_rolls_first (talk keys limits)

pub returns-clause-worn_late : goal.returns-clause-worn_late
returns-clause-worn_late c = λ keys limits. counts.worn_late (talk keys limits)

pub returns-clause-first_failed : goal.returns-clause-first_failed
returns-clause-first_failed c = λ keys limits. unsent.first_failed (talk keys limits)

pub returns-clause-each_is_answered : goal.returns-clause-each_is_answered
returns-clause-each_is_answered c = λ keys limits. answering.each_is_answered (talk keys limits) (comes_by limits) (plans_are_told keys limits)

pub returns-clause-waits_for_nothing : goal.returns-clause-waits_for_nothing
returns-clause-waits_for_nothing c = λ keys limits. nothing_was_there (talk keys limits) (comes_by limits) (plans_are_told keys limits)

pub returns-clause-valid_close : goal.returns-clause-valid_close
returns-clause-valid_close c = λ keys limits. closings.valid_closes (talk keys limits)

pub returns-clause-kept : goal.returns-clause-kept
returns-clause-kept c = λ keys limits. upward.kept (talk keys limits)

pub returns-clause-one_more : goal.returns-clause-one_more
returns-clause-one_more c = λ keys limits. upward.one_more (talk keys limits)

pub returns-clause-learning : goal.returns-clause-learning
returns-clause-learning c = λ keys limits. upward.learning (talk keys limits)

pub returns-clause-nothing_left : goal.returns-clause-nothing_left
returns-clause-nothing_left c = λ keys limits. upward.nothing_left (talk keys limits)

pub returns-clause-feeds_hold : goal.returns-clause-feeds_hold
returns-clause-feeds_hold c = λ keys limits seen share life good none slot feed stamp after o n le whole.
    session_fed (talk keys limits) (comes_by limits) (plans_are_told keys limits) slot feed seen share life good none stamp after o n le whole

pub returns-clause-skips_are_sent : goal.returns-clause-skips_are_sent
returns-clause-skips_are_sent c = λ keys limits seen share life none slot feed stamp after o.
    session_tells (talk keys limits) (comes_by limits) (plans_are_told keys limits) slot feed seen share life none stamp after o
