use Rattle.reql_session_spec.proofs.Endings as endings
use Rattle.reql_session_spec.proofs.laws.feeds_end.Goals as goal

pub returns-clause-opens : goal.returns-clause-opens
returns-clause-opens g c = λ f. endings.feeds_open (g.F.Planning.talk f)

pub returns-clause-ends : goal.returns-clause-ends
returns-clause-ends g c = λ f. endings.feeds_end (g.F.Planning.talk f) (g.F.Planning.on f) (g.F.Planning.minds f)
