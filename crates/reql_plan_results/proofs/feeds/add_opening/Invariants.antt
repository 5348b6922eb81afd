use Rattle.std.proofs.Common.{◌≡◌, ◌++◌, ◌-◌, drop, length, map}
use Rattle.reql_plan_spec.specs.Course.{items_of}
use Rattle.reql_plan_results.specs.Seen.{item}
use Rattle.reql_plan_results.proofs.feeds.add_opening.Given as goal

abbrev pub decreases-loop-shown : goal.decreases-loop-shown
decreases-loop-shown l = length l.opening - l.place

abbrev pub invariant-loop-shown : goal.invariant-loop-shown
invariant-loop-shown l = map item l.items.items ++ items_of l.arm l.stamp (drop l.place l.opening) ≡ map item l.initial.items.items ++ items_of l.arm l.stamp l.opening
