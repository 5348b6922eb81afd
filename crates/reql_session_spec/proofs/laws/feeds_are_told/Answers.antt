use Rattle.reql_session_spec.proofs.Printed as told
use Rattle.reql_session_spec.proofs.laws.feeds_are_told.Goals as goal

pub returns-clause-told : goal.returns-clause-told
returns-clause-told g c = λ f. told.feeds_are_told (g.F.Planning.talk f) (g.F.Planning.on f) (g.F.Planning.minds f)

pub returns-clause-of_feeds : goal.returns-clause-of_feeds
returns-clause-of_feeds g c = λ f. told.batches_are_of_feeds (g.F.Planning.talk f) (g.F.Planning.on f) (g.F.Planning.minds f)

pub returns-clause-takes : goal.returns-clause-takes
returns-clause-takes g c = λ f. told.takes_are_of_feeds (g.F.Planning.talk f) (g.F.Planning.on f) (g.F.Planning.minds f)

pub returns-clause-all : goal.returns-clause-all
returns-clause-all g c = λ f. told.all_is_said (g.F.Planning.talk f) (g.F.Planning.on f) (g.F.Planning.minds f)

pub returns-clause-full : goal.returns-clause-full
returns-clause-full g c = λ f. told.batches_are_full (g.F.Planning.talk f) (g.F.Planning.on f) (g.F.Planning.minds f)
