use Rattle.std.proofs.Common.{is_some}
use Rattle.reql_feed_limit.specs.Seen.{order_of}
use Rattle.reql_feed_limit.proofs.Bridge.{documents_seen}
use Rattle.reql_feed_limit.proofs.feed.LimitFeed.opening.Goals as goal

pub returns : goal.returns
returns c =
    rw (← c.self.view_is, documents_seen (is_some (order_of c.self.inside.order).index) c.self.inside.held.items) (rw c.deref.ensures.value at c.opening_items.ensures)
