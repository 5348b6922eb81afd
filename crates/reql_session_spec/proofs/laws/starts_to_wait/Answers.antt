use Rattle.reql_session_spec.proofs.Idling as idling
use Rattle.reql_session_spec.proofs.Waiting as waiting
use Rattle.reql_session_spec.proofs.laws.starts_to_wait.Goals as goal

pub returns-clause-starts : goal.returns-clause-starts
returns-clause-starts g c = λ f. waiting.starts_to_wait (g.F.Planning.talk f)

pub returns-clause-goes_on : goal.returns-clause-goes_on
returns-clause-goes_on g c = λ f. waiting.waits_on (g.F.Planning.talk f)

pub returns-clause-for_nothing : goal.returns-clause-for_nothing
returns-clause-for_nothing g c = λ f. idling.nothing_was_there (g.F.Planning.talk f) (g.F.Planning.on f) (g.F.Planning.minds f)
