use Rattle.std.proofs.Common.{◌≡◌, ◌++◌, ◌-◌, drop, length, nat_lt, false}
use Rattle.reql_answer.specs.Ending.{points_text}
use Rattle.reql_answer.proofs.ends.write_points.Given as goal

abbrev pub invariant-loop-point : goal.invariant-loop-point
invariant-loop-point l = l.out.items ++ points_text (nat_lt 0 l.place) (drop l.place l.points) ≡ l.initial.out.items ++ points_text false l.points

abbrev pub decreases-loop-point : goal.decreases-loop-point
decreases-loop-point l = length l.points - l.place
