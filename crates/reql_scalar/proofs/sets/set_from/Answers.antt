use Rattle.std.proofs.Common.{◌+◌, take, drop, subst}
use Rattle.reql_datum.specs.View.{plain}
use Rattle.reql_scalar.specs.Among.{Holds}
use Rattle.reql_scalar.proofs.Takes.{take_next, take_whole}
use Rattle.reql_scalar.proofs.sets.set_from.Goals as goal

pub loop-item-preserved : goal.loop-item-preserved
loop-item-preserved c =
    subst (λ t. Holds c.put.new.seen t) (take_next c.loop-item.place c.args.list.now (plain c.in-Some.item.now) (drop (c.loop-item.place + 1) c.args.list.now) c.in-Some.ensures.rest)
    (c.in_ok-put.ensures.more (take c.loop-item.place c.args.list.now) c.loop-item.invariant)

pub returns : goal.returns
returns c = subst (λ t. Holds c.loop-item.set t) (take_whole c.loop-item.place c.args.list.now c.in_default.ensures.rest) c.loop-item.invariant
