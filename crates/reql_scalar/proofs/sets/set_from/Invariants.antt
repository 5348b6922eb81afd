use Rattle.std.proofs.Common.{◌-◌, length, take}
use Rattle.reql_scalar.specs.Among.{Holds}
use Rattle.reql_scalar.proofs.sets.set_from.Given as goal

abbrev pub invariant-loop-item : goal.invariant-loop-item
invariant-loop-item l = Holds l.set (take l.place l.list)

abbrev pub decreases-loop-item : goal.decreases-loop-item
decreases-loop-item l = length l.list - l.place
