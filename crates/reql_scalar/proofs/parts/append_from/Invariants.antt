use Rattle.std.proofs.Common.{◌≡◌, ◌++◌, ◌-◌, length, drop}
use Rattle.reql_scalar.proofs.parts.append_from.Given as goal

abbrev pub invariant-loop-item : goal.invariant-loop-item
invariant-loop-item l = l.list ++ drop l.place l.more ≡ l.initial.list ++ drop l.fn.from l.more

abbrev pub decreases-loop-item : goal.decreases-loop-item
decreases-loop-item l = length l.more - l.place
