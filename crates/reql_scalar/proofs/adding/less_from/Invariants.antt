use Rattle.std.proofs.Common.{◌≡◌, ◌-◌, length, drop, true, Ok}
use Rattle.reql_scalar.specs.Adding.{less_on}
use Rattle.reql_scalar.proofs.adding.less_from.Given as goal

abbrev pub invariant-loop-item : goal.invariant-loop-item
invariant-loop-item l = less_on true (Ok l.fn.start) (drop 1 l.args) ≡ less_on l.still l.so_far (drop l.place l.args)

abbrev pub decreases-loop-item : goal.decreases-loop-item
decreases-loop-item l = length l.args - l.place
