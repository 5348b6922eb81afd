use Rattle.reql_session_spec.proofs.Unsent as unsent
use Rattle.reql_session_spec.proofs.laws.first_failed.Goals as goal

pub returns : goal.returns
returns g c = λ f. unsent.first_failed (g.F.Planning.talk f)
