use Rattle.std.proofs.Common.{◌≡◌, ◌++◌, ◌-◌, length, drop}
use Rattle.reql_apply_seq.proofs.joining.append.Given as goal

abbrev pub invariant-loop-item : goal.invariant-loop-item
invariant-loop-item l = l.all ++ drop l.place l.items ≡ l.initial.all ++ l.items

abbrev pub decreases-loop-item : goal.decreases-loop-item
decreases-loop-item l = length l.items - l.place
