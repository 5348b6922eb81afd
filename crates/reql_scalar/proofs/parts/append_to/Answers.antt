use Rattle.std.proofs.Common.{◌+◌, drop}
use Rattle.reql_datum.specs.View.{plain}
use Rattle.reql_scalar.proofs.Takes.{grown}
use Rattle.reql_scalar.proofs.parts.append_to.Goals as goal

pub loop-place-preserved : goal.loop-place-preserved
loop-place-preserved c =
    grown c.add.new.list c.loop-place.list c.args.list.now c.args.more.now (drop (c.loop-place.place + 1) c.args.more.now) (plain c.in-Some.item.now) c.loop-place.place c.in_ok-add.ensures c.loop-place.invariant c.in-Some.ensures.rest
