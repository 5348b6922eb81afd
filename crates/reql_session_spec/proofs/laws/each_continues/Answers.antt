use Rattle.reql_session_spec.proofs.Continuing as continuing
use Rattle.reql_session_spec.proofs.laws.each_continues.Goals as goal

pub returns : goal.returns
returns g c = λ f. continuing.each_continues (g.F.Planning.talk f)
