use Rattle.std.proofs.Common.{◌≡◌, ◌+◌, ◌*◌, ◌-◌, length, drop}
use Rattle.reql_datum.specs.Plain.{items_of, pairs_of, weight, list_weight, members_weight}
use Rattle.reql_datum.specs.View.{plain}
use Rattle.reql_rules.specs.Patterns.{has_all, has_each}
use Rattle.reql_path.proofs.having.+has.Given as goal

abbrev pub decreases-has_in : goal.decreases-has_in
decreases-has_in l = 2 * weight (plain l.pattern.now)

abbrev pub decreases-has_inside : goal.decreases-has_inside
decreases-has_inside l = 2 * weight (plain l.pattern.now) + 1

abbrev pub decreases-has_all : goal.decreases-has_all
decreases-has_all l = 2 * list_weight l.patterns.now

abbrev pub decreases-has_each : goal.decreases-has_each
decreases-has_each l = 2 * members_weight l.named.now

abbrev pub invariant-has_all-loop-pattern : goal.invariant-has_all-loop-pattern
invariant-has_all-loop-pattern l = has_all (items_of (drop l.place l.patterns)) l.object ≡ has_all (items_of l.patterns) l.object

abbrev pub decreases-has_all-loop-pattern : goal.decreases-has_all-loop-pattern
decreases-has_all-loop-pattern l = length l.patterns - l.place

abbrev pub invariant-has_each-loop-name : goal.invariant-has_each-loop-name
invariant-has_each-loop-name l = has_each (pairs_of (drop l.place l.named)) l.object ≡ has_each (pairs_of l.named) l.object

abbrev pub decreases-has_each-loop-name : goal.decreases-has_each-loop-name
decreases-has_each-loop-name l = length l.named - l.place
