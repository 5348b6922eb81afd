use Rattle.reql_session_spec.proofs.Answering as answering
use Rattle.reql_session_spec.proofs.laws.each_is_answered.Goals as goal

pub returns : goal.returns
returns g c = λ f. answering.each_is_answered (g.F.Planning.talk f) (g.F.Planning.on f) (g.F.Planning.minds f)
