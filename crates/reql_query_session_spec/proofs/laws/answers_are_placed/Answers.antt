use Rattle.reql_session_spec.proofs.Arms as arms
use Rattle.reql_session_spec.proofs.Placed as placed
use Rattle.reql_query_session_spec.specs.Told.{talk, comes_by}
use Rattle.reql_query_session_spec.specs.Minding.{plans_are_told}
use Rattle.reql_query_session_spec.proofs.laws.answers_are_placed.Goals as goal

pub returns-clause-apart : goal.returns-clause-apart
returns-clause-apart c = λ keys limits. arms.arms_are_apart (talk keys limits) (comes_by limits) (plans_are_told keys limits)

pub returns-clause-takes : goal.returns-clause-takes
returns-clause-takes c = λ keys limits. placed.takes_are_placed (talk keys limits)

pub returns-clause-subscribes : goal.returns-clause-subscribes
returns-clause-subscribes c = λ keys limits. placed.subscribes_are_placed (talk keys limits)
