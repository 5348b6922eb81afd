use Rattle.reql_session_spec.proofs.Feeding.{session_fed}
use Rattle.reql_session_spec.proofs.laws.feeds_hold.Goals as goal

pub returns : goal.returns
returns g c = λ f seen share life good none slot feed stamp after o n le whole.
    session_fed (g.F.Planning.talk f) (g.F.Planning.on f) (g.F.Planning.minds f) slot feed seen share life good none stamp after o n le whole
