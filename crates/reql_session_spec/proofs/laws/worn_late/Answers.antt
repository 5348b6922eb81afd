use Rattle.reql_session_spec.proofs.Counts as counts
use Rattle.reql_session_spec.proofs.laws.worn_late.Goals as goal

pub returns : goal.returns
returns g c = λ f. counts.worn_late (g.F.Planning.talk f)
