use Rattle.std.proofs.Common.{arith}
use Rattle.reql_serve.proofs.Grouped.{one_stands}
use Rattle.reql_serve.proofs.group.stand_all.Goals as goal

pub loop-place-preserved : goal.loop-place-preserved
loop-place-preserved g c =
    one_stands g.G.Door.told c.args.workers.now c.loop-place.workers c.args.state c.loop-place.place c.index-workers-place.result c.stand.new.worker (omega (arith, c.loop-place-test.true, c.loop-place.auto.workers)) c.loop-place.invariant c.stand.ensures
