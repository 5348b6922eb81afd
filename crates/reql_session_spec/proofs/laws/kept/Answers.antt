use Rattle.reql_session_spec.proofs.Upward as upward
use Rattle.reql_session_spec.proofs.laws.kept.Goals as goal

pub returns : goal.returns
returns g c = λ f. upward.kept (g.F.Planning.talk f)
