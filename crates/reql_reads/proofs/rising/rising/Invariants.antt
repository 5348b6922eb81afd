use Rattle.std.proofs.Common.{◌≡◌, ◌≤◌, drop, length}
use Rattle.reql_plan_spec.specs.Reads.{rising}
use Rattle.reql_reads.proofs.rising.rising.Given as goal

abbrev pub decreases-loop-place : goal.decreases-loop-place
decreases-loop-place l = l.place

abbrev pub invariant-loop-place : goal.invariant-loop-place
invariant-loop-place l = record {
  done : l.slots.items ≡ rising (drop l.place l.numbers);
  within : l.place ≤ length l.numbers;
}
