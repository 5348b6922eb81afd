use Rattle.reql_hall.specs.Rooms.{Sits}
use Rattle.rows_sharing.proofs.desks.give.Given as goal

abbrev pub invariant-loop-number : goal.invariant-loop-number
invariant-loop-number g l = Sits l.hall l.desk
