use Rattle.reql_session_spec.proofs.Closings as closings
use Rattle.reql_session_spec.proofs.laws.valid_closes.Goals as goal

pub returns : goal.returns
returns g c = λ f. closings.valid_closes (g.F.Planning.talk f)
