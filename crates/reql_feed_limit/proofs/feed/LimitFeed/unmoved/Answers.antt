use Rattle.std.proofs.Common.{ap, option_map}
use Rattle.reql_feed_limit.specs.Seen.{seen, seen_step}
use Rattle.reql_feed_limit.proofs.Answered.{stay_none}
use Rattle.reql_feed_limit.proofs.feed.LimitFeed.unmoved.Goals as goal

pub returns-in-None : goal.returns-in-None
returns-in-None c =
    stay_none c.args.self.now.order.down c.args.self.now.order.most c.args.self.now.elements (option_map seen c.args.come) (seen_step c.nothing.result) (ap (option_map seen) c.in-None.is) c.nothing.ensures

pub returns-in-Some : goal.returns-in-Some
returns-in-Some c = rw (← c.self.view_is, c.in-Some.is) (rw c.deref.ensures.value at c.arrive.ensures)
