use Rattle.std.proofs.Common.{◌≡◌, ◌-◌, drop, length}
use Rattle.reql_session.specs.Batches.{are_below}
use Rattle.reql_session.proofs.arms.are_there.Given as goal

abbrev pub invariant-loop-arm : goal.invariant-loop-arm
invariant-loop-arm l = are_below l.slots (drop l.place l.arms) ≡ are_below l.slots l.arms

abbrev pub decreases-loop-arm : goal.decreases-loop-arm
decreases-loop-arm l = length l.arms - l.place
