use Rattle.std.proofs.Common.{◌≡◌, ◌-◌, drop, length}
use Rattle.reql_datum.specs.Plain.{items_of, weight, list_weight}
use Rattle.reql_datum.specs.View.{plain}
use Rattle.reql_print.specs.Indexed.{all_short}
use Rattle.reql_print.proofs.index.+short.Given as goal

abbrev pub decreases-is_short : goal.decreases-is_short
decreases-is_short l = weight (plain l.datum.now)

abbrev pub decreases-all_short : goal.decreases-all_short
decreases-all_short l = list_weight l.items.now

abbrev pub invariant-all_short-loop-item : goal.invariant-all_short-loop-item
invariant-all_short-loop-item l = all_short (items_of (drop l.place l.items)) ≡ all_short (items_of l.items)

abbrev pub decreases-all_short-loop-item : goal.decreases-all_short-loop-item
decreases-all_short-loop-item l = length l.items - l.place
