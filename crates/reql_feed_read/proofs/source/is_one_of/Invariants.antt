use Rattle.std.proofs.Common.{◌≡◌, ◌-◌, drop, length}
use Rattle.std.specs.List.{list_any}
use Rattle.std.specs.Ordering.{is_eq}
use Rattle.reql_datum.specs.Order.{order}
use Rattle.reql_datum.specs.View.{plain}
use Rattle.reql_feed_read.proofs.source.is_one_of.Given as goal

abbrev pub decreases-loop-other : goal.decreases-loop-other
decreases-loop-other l = length l.keys - l.place

abbrev pub invariant-loop-other : goal.invariant-loop-other
invariant-loop-other l = list_any (λ j. is_eq (order j (plain l.value))) (drop l.place l.keys) ≡ list_any (λ j. is_eq (order j (plain l.value))) l.keys
