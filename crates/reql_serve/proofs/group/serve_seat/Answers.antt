use Rattle.reql_serve.proofs.Seated.{serves}
use Rattle.reql_serve.proofs.group.serve_seat.Goals as goal

pub returns-then-ne : goal.returns-then-ne
returns-then-ne g c = serves _ _ _ _ _ _ _ _ _ _ c.args.worker.now c.args.worker.now c.args.seat.now c.args.seat.now (λ o h. h)
