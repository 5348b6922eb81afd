use Rattle.reql_squash.specs.Told.{items_seen}
use Rattle.reql_squash.proofs.Walks.{net_told}
use Rattle.reql_squash.proofs.joining.squash.Goals as goal

pub returns : goal.returns
returns c = net_told c.args.kind c.args.types c.in_ok-printer.printer.types c.in_ok-printer.printer.stamp c.in-Some.last.now.0 (items_seen c.args.items.now) c.in_ok-members.members _ _ _
    c.from_vec.ensures c.in_ok-tell.ensures c.new-told.ensures.items c.in_ok-printer.ensures.types c.in_ok-printer.ensures.stamp c.in-Some.ensures c.in_ok-members.ensures
