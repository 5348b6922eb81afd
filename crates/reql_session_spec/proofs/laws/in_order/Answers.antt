use Rattle.reql_session_spec.proofs.Orders.{handled}
use Rattle.reql_session_spec.proofs.laws.in_order.Goals as goal

pub returns : goal.returns
returns g c = λ f. handled (g.F.Planning.talk f)
