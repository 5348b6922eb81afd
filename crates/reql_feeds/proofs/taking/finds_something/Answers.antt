use Rattle.reql_feeds.proofs.Served.{none_asked, some_asked}
use Rattle.reql_feeds.proofs.taking.finds_something.Goals as goal

pub returns-in-None : goal.returns-in-None
returns-in-None g c = none_asked g.F.Following.held c.args.owner c.args.number c.args.entries.now c.in-None.ensures.none

pub returns-in-Some : goal.returns-in-Some
returns-in-Some g c =
    some_asked g.F.Following.held c.args.owner c.args.number c.args.entries.now c.in-Some.place c.requires c.in-Some.ensures.none c.in-Some.ensures.some c.index-entries-place.result c.has_something-found.result c.has_something-found.ensures
