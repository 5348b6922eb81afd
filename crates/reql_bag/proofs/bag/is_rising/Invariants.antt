use Rattle.std.proofs.Common.{◌∷◌, ◌-◌, length, drop}
use Rattle.reql_datum.specs.View.{plain}
use Rattle.reql_bag.specs.Bag.{IsRising}
use Rattle.reql_bag.proofs.bag.is_rising.Given as goal

abbrev pub invariant-loop-next : goal.invariant-loop-next
invariant-loop-next l = IsRising (plain l.last ∷ drop l.place l.items) → IsRising l.items

abbrev pub decreases-loop-next : goal.decreases-loop-next
decreases-loop-next l = length l.items - l.place
