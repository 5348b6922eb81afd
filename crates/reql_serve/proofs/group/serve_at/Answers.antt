use Rattle.reql_serve.proofs.Grouped.{one_serves, seat_at}
use Rattle.reql_serve.proofs.group.serve_at.Goals as goal

pub serve_seat-requires-clause-seat : goal.serve_seat-requires-clause-seat
serve_seat-requires-clause-seat g c =
    seat_at _ _ _ _ _ _ _ _ _ _ c.args.workers.now c.args.sittings.now c.args.place c.index-workers-place.result c.index-sittings-place.result c.requires.place c.requires.count c.requires.seats

pub returns : goal.returns
returns g c =
    one_serves _ _ _ _ _ _ _ _ _ _ c.args.workers.now c.args.sittings.now c.args.place c.index-workers-place.result c.serve_seat.new.worker c.index-sittings-place.result c.serve_seat.new.seat c.requires.place c.requires.count c.serve_seat.ensures
