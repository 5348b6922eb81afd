use Rattle.reql_session_spec.proofs.Feeding.{session_tells}
use Rattle.reql_session_spec.proofs.laws.skips_are_sent.Goals as goal

pub returns : goal.returns
returns g c = λ f seen share life none slot feed stamp after o. session_tells (g.F.Planning.talk f) (g.F.Planning.on f) (g.F.Planning.minds f) slot feed seen share life none stamp after o
