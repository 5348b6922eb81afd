use Rattle.std.proofs.Common.{◌≡◌, ◌-◌, drop, length, map}
use Rattle.reql_plan_results.specs.Seen.{opened}
use Rattle.reql_plan_spec.specs.Course.{is_among}
use Rattle.reql_plan.proofs.opened.is_among.Given as goal

abbrev pub invariant-loop-known : goal.invariant-loop-known
invariant-loop-known l = is_among l.slot l.feed (map opened (drop l.place l.before)) ≡ is_among l.slot l.feed (map opened l.before)

abbrev pub decreases-loop-known : goal.decreases-loop-known
decreases-loop-known l = length l.before - l.place
