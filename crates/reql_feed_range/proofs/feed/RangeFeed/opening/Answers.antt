use Rattle.reql_table.specs.Seen.{documents_of}
use Rattle.reql_feed_range.proofs.Feeds.{key_opened, shape_opened, no_order, nothing_opened}
use Rattle.reql_feed_range.proofs.feed.RangeFeed.opening.Goals as goal

pub returns-in-Key : goal.returns-in-Key
returns-in-Key c =
    key_opened c.self.inside.spec c.self.inside.index c.self.inside.follows c.self.inside.printer c.self.invariant c.args.self.now c.self.view_is c.open_key.result (documents_of c.args.table.now) c.in-Key.key c.in-Key.is c.open_key.ensures

pub returns-in-Shape : goal.returns-in-Shape
returns-in-Shape c =
    shape_opened c.self.inside.spec c.self.inside.index c.self.inside.follows c.self.inside.printer c.self.invariant c.args.self.now c.self.view_is c.open_shape.result (documents_of c.args.table.now) c.in-Shape.shape c.in-Shape.is c.open_shape.ensures

pub returns-in-Nothing : goal.returns-in-Nothing
returns-in-Nothing c =
    nothing_opened c.self.inside.spec c.self.inside.index c.self.inside.follows c.self.inside.printer c.self.invariant c.args.self.now c.self.view_is c.open_nothing.result (documents_of c.args.table.now) c.in-Nothing.is c.open_nothing.ensures

pub unreachable-requires : goal.unreachable-requires
unreachable-requires c = no_order c.self.inside.spec c.self.inside.index c.self.inside.follows c.self.inside.printer c.self.invariant _ c.in-First.is
