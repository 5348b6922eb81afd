use Rattle.std.proofs.Common.{refl}
use Rattle.reql_feeds.proofs.Hearings.{followed}
use Rattle.reql_feeds.proofs.shadow.follow.Goals as goal

pub returns : goal.returns
returns g c =
    followed g.F.Following.held g.F.Following.fits g.F.Following.brings g.F.Following.reads c.args.entry.now c.args.shadow.now (record { kept = _; items = c.add_items.new.items }) c.in_ok-kept.kept c.install.new.self c.args.prepared c.args.stamp c.into_vec.result.items
    c.in_ok-kept.ensures.kept refl (rw c.in_ok-kept.ensures.items at c.in_ok-add_items.ensures) c.into_vec.ensures c.install.ensures.fits c.install.ensures.held c.install.ensures.reads
