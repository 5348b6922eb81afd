use Rattle.std.proofs.Common.{option_map}
use Rattle.reql_datum.specs.View.{plain}
use Rattle.reql_feed_range.proofs.Feeds.{key_told, shape_told, no_order, nothing_told}
use Rattle.reql_feed_range.proofs.feed.RangeFeed.prepare.Goals as goal

pub returns-in-Key : goal.returns-in-Key
returns-in-Key c =
    key_told c.self.inside.spec c.self.inside.index c.self.inside.follows c.self.inside.printer c.self.invariant c.args.self.now c.self.view_is c.point_change.result (plain c.args.change.now.key) (option_map plain c.args.change.now.old) (option_map plain c.args.change.now.new)
    c.in-Key.key c.in-Key.is c.point_change.ensures

pub returns-in-Shape : goal.returns-in-Shape
returns-in-Shape c =
    shape_told c.self.inside.spec c.self.inside.index c.self.inside.follows c.self.inside.printer c.self.invariant c.args.self.now c.self.view_is c.range_change.result (plain c.args.change.now.key) (option_map plain c.args.change.now.old) (option_map plain c.args.change.now.new)
    c.in-Shape.shape c.in-Shape.is c.range_change.ensures

pub returns-in-Nothing : goal.returns-in-Nothing
returns-in-Nothing c docs up found =
    nothing_told c.self.inside.spec c.self.inside.index c.self.inside.follows c.self.inside.printer c.self.invariant c.args.self.now c.self.view_is c.in-Nothing.is _ (plain c.args.change.now.key) (option_map plain c.args.change.now.new) docs c.new.ensures

pub unreachable-requires : goal.unreachable-requires
unreachable-requires c = no_order c.self.inside.spec c.self.inside.index c.self.inside.follows c.self.inside.printer c.self.invariant _ c.in-First.is
