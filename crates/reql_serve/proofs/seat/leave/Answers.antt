use Rattle.std.proofs.Common.{refl, arith}
use Rattle.reql_serve.proofs.Seated.{has_left, client_gone, share_served}
use Rattle.reql_serve.proofs.seat.leave.Goals as goal

pub returns-then-worker-eq0 : goal.returns-then-worker-eq0
returns-then-worker-eq0 g c =
    let d = c.dismiss-bench.ensures in
    has_left _ _ _ _ _ _ _ _ _ _ c.args.worker.now c.stop.new.worker c.args.sitting c.args.end
    (λ o h. share_served _ _ _ _ _ _ _ _ _ _ o _ c.stop.new.worker c.requires.ready
    (client_gone _ _ _ _ _ _ _ _ _ _ o c.args.worker.now _ c.args.sitting c.args.end c.dismiss-bench.result.0 c.dismiss-bench.result.1 h d.served d.sits d.desk c.push_reserved.ensures.items (omega (arith, c.requires.share)) d.still c.requires.ready refl)
    (omega (arith, c.if-worker-eq0.true)) c.stop.ensures)

pub returns-else-worker-eq0 : goal.returns-else-worker-eq0
returns-else-worker-eq0 g c =
    let d = c.dismiss-bench.ensures in
    has_left _ _ _ _ _ _ _ _ _ _ c.args.worker.now _ c.args.sitting c.args.end
    (λ o h. client_gone _ _ _ _ _ _ _ _ _ _ o c.args.worker.now _ c.args.sitting c.args.end c.dismiss-bench.result.0 c.dismiss-bench.result.1 h d.served d.sits d.desk c.push_reserved.ensures.items (omega (arith, c.requires.share)) d.still c.requires.ready refl)
