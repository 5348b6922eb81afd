use Rattle.reql_session_spec.proofs.Beginning as beginning
use Rattle.reql_session_spec.proofs.laws.each_begins.Goals as goal

pub returns : goal.returns
returns g c = λ f. beginning.each_begins (g.F.Planning.talk f)
