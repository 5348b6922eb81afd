use Rattle.std.proofs.Common.{◌≡◌, ◌+◌, ◌*◌, ◌-◌, length, drop}
use Rattle.reql_datum.specs.Plain.{items_of, pairs_of, weight, list_weight, members_weight}
use Rattle.reql_datum.specs.View.{plain}
use Rattle.reql_datum.specs.Order.{items_order, pairs_order}
use Rattle.reql_datum.proofs.comparing.+compare.Given as goal

abbrev pub decreases-ordered : goal.decreases-ordered
decreases-ordered l = 2 * weight (plain l.a.now) + 1

abbrev pub decreases-ordered_within : goal.decreases-ordered_within
decreases-ordered_within l = 2 * weight (plain l.a.now)

abbrev pub decreases-compare_fields : goal.decreases-compare_fields
decreases-compare_fields l = 2 * members_weight l.ms.now

abbrev pub decreases-compare_items : goal.decreases-compare_items
decreases-compare_items l = 2 * list_weight l.us.now

abbrev pub invariant-compare_fields-loop-j : goal.invariant-compare_fields-loop-j
invariant-compare_fields-loop-j l = pairs_order (pairs_of (drop l.place l.ms)) (pairs_of (drop l.place l.ns)) ≡ pairs_order (pairs_of l.ms) (pairs_of l.ns)

abbrev pub decreases-compare_fields-loop-j : goal.decreases-compare_fields-loop-j
decreases-compare_fields-loop-j l = length l.ms - l.place

abbrev pub invariant-compare_items-loop-u : goal.invariant-compare_items-loop-u
invariant-compare_items-loop-u l = items_order (items_of (drop l.place l.us)) (items_of (drop l.place l.vs)) ≡ items_order (items_of l.us) (items_of l.vs)

abbrev pub decreases-compare_items-loop-u : goal.decreases-compare_items-loop-u
decreases-compare_items-loop-u l = length l.us - l.place
