use Rattle.std.proofs.Common.{◌≤◌, ◌-◌, [], length, take}
use Rattle.reql_outside.specs.Tape.{Moves}
use Rattle.reql_outside.proofs.sending.send_all.Given as goal

abbrev pub invariant-loop-sent : goal.invariant-loop-sent
invariant-loop-sent g l = record {
  within : l.sent ≤ length l.piece;
  moves : Moves (g.L.Link.tape l.initial.link) (g.L.Link.tape l.link) [] (take l.sent l.piece) 0 (g.L.Link.tape l.initial.link).over;
}

abbrev pub decreases-loop-sent : goal.decreases-loop-sent
decreases-loop-sent g l = length l.piece - l.sent
