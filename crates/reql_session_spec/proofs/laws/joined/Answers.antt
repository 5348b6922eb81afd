use Rattle.reql_session_spec.proofs.Upward as upward
use Rattle.reql_session_spec.proofs.laws.joined.Goals as goal

pub returns-clause-one_more : goal.returns-clause-one_more
returns-clause-one_more g c = λ f. upward.one_more (g.F.Planning.talk f)

pub returns-clause-learning : goal.returns-clause-learning
returns-clause-learning g c = λ f. upward.learning (g.F.Planning.talk f)

pub returns-clause-nothing_left : goal.returns-clause-nothing_left
returns-clause-nothing_left g c = λ f. upward.nothing_left (g.F.Planning.talk f)
