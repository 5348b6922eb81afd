use Rattle.reql_session_spec.proofs.Owed as owed
use Rattle.reql_session_spec.proofs.laws.nothing_kept_back.Goals as goal

pub returns-clause-kept : goal.returns-clause-kept
returns-clause-kept g c = λ f. owed.nothing_kept_back (g.F.Planning.talk f) (g.F.Planning.on f) (g.F.Planning.minds f)

pub returns-clause-sent : goal.returns-clause-sent
returns-clause-sent g c = λ f. owed.all_is_sent (g.F.Planning.talk f) (g.F.Planning.on f) (g.F.Planning.minds f)
