use Rattle.std.proofs.Common.{◌≡◌, ◌++◌, ◌-◌, drop, length}
use Rattle.reql_plan_spec.specs.Reads.{with_slot}
use Rattle.reql_reads.proofs.rising.with_slot.Given as goal

abbrev pub decreases-loop-place : goal.decreases-loop-place
decreases-loop-place l = length l.slots - l.place

abbrev pub invariant-loop-place : goal.invariant-loop-place
invariant-loop-place l = l.below.items ++ with_slot l.slot (drop l.place l.slots) ≡ with_slot l.slot l.slots
