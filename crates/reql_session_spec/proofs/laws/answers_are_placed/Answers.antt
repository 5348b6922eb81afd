use Rattle.reql_session_spec.proofs.Placed as placed
use Rattle.reql_session_spec.proofs.laws.answers_are_placed.Goals as goal

pub returns-clause-takes : goal.returns-clause-takes
returns-clause-takes g c = λ f. placed.takes_are_placed (g.F.Planning.talk f)

pub returns-clause-subscribes : goal.returns-clause-subscribes
returns-clause-subscribes g c = λ f. placed.subscribes_are_placed (g.F.Planning.talk f)
