use Rattle.std.proofs.Common.{◌≡◌, ◌-◌, length, drop}
use Rattle.reql_scalar.specs.Adding.{added_items}
use Rattle.reql_scalar.proofs.adding.arrays.Given as goal

abbrev pub invariant-loop-item : goal.invariant-loop-item
invariant-loop-item l = added_items l.fn.first (drop 1 l.args) ≡ added_items l.joined (drop l.place l.args)

abbrev pub decreases-loop-item : goal.decreases-loop-item
decreases-loop-item l = length l.args - l.place
