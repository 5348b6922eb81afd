use Rattle.reql_feed_range.proofs.Feeds.{key_only, no_key_of_shape, no_key_of_nothing, no_order}
use Rattle.reql_feed_range.proofs.feed.RangeFeed.only_key.Goals as goal

pub returns-in-Key : goal.returns-in-Key
returns-in-Key c = key_only c.self.inside.spec c.self.inside.index c.self.inside.follows c.self.inside.printer c.self.invariant c.args.self.now c.self.view_is c.in-Key.key c.in-Key.is

pub returns-in-Shape : goal.returns-in-Shape
returns-in-Shape c = no_key_of_shape c.self.inside.spec c.self.inside.index c.self.inside.follows c.self.inside.printer c.self.invariant c.args.self.now c.self.view_is _ c.in-Shape.is

pub returns-in-Nothing : goal.returns-in-Nothing
returns-in-Nothing c = no_key_of_nothing c.self.inside.spec c.self.inside.index c.self.inside.follows c.self.inside.printer c.self.invariant c.args.self.now c.self.view_is c.in-Nothing.is

pub unreachable-requires : goal.unreachable-requires
unreachable-requires c = no_order c.self.inside.spec c.self.inside.index c.self.inside.follows c.self.inside.printer c.self.invariant _ c.in-First.is
