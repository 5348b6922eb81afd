use Rattle.std.proofs.Common.{◌≡◌, ◌≤◌, ◌++◌, ◌-◌, drop, length, map}
use Rattle.reql_plan_spec.specs.Course.{opening_from}
use Rattle.reql_plan_results.specs.Seen.{item, opened}
use Rattle.reql_plan_results.proofs.feeds.add_openings.Given as goal

abbrev pub decreases-loop-place : goal.decreases-loop-place
decreases-loop-place l = length l.arms - l.place

abbrev pub invariant-loop-place : goal.invariant-loop-place
invariant-loop-place l = map item l.items.items ++ opening_from l.place (map opened (drop l.place l.arms)) ≡ map item l.initial.items.items ++ opening_from 0 (map opened l.arms)
