use Rattle.reql_session_spec.proofs.Opened as opened
use Rattle.reql_session_spec.proofs.laws.each_is_opened.Goals as goal

pub returns : goal.returns
returns g c = λ f. opened.each_is_opened (g.F.Planning.talk f)
