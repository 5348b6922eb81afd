use Rattle.reql_session_spec.proofs.Arms as arms
use Rattle.reql_session_spec.proofs.laws.arms_are_apart.Goals as goal

pub returns : goal.returns
returns g c = λ f. arms.arms_are_apart (g.F.Planning.talk f) (g.F.Planning.on f) (g.F.Planning.minds f)
