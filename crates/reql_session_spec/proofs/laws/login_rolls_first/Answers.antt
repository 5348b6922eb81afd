use Rattle.reql_session_spec.proofs.Rolling as rolling
use Rattle.reql_session_spec.proofs.laws.login_rolls_first.Goals as goal

pub returns : goal.returns
returns g c = λ f. rolling.login_rolls_first (g.F.Planning.talk f)
