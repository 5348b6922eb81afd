use Rattle.std.proofs.Common.{refl}
use Rattle.reql_serve.proofs.seat.stop.Goals as goal

pub returns : goal.returns
returns g c = record { bench = refl; left = refl; ended = refl; still = c.rests.ensures.still; state = refl }
