use Rattle.std.proofs.Common.{◌≡◌, ◌-◌, length, drop}
use Rattle.reql_datum.specs.Plain.{items_of, weight, list_weight}
use Rattle.reql_datum.specs.Keys.{are_keys}
use Rattle.reql_datum.specs.View.{plain}
use Rattle.reql_datum.proofs.+is_key.Given as goal

abbrev pub decreases-datum::Datum::is_key : goal.decreases-datum::Datum::is_key
decreases-datum::Datum::is_key l = weight (plain l.self.now)

abbrev pub decreases-shape::are_keys : goal.decreases-shape::are_keys
decreases-shape::are_keys l = list_weight l.items.now

abbrev pub invariant-shape::are_keys-loop-item : goal.invariant-shape::are_keys-loop-item
invariant-shape::are_keys-loop-item l = are_keys (items_of (drop l.place l.items)) ≡ are_keys (items_of l.items)

abbrev pub decreases-shape::are_keys-loop-item : goal.decreases-shape::are_keys-loop-item
decreases-shape::are_keys-loop-item l = length l.items - l.place
