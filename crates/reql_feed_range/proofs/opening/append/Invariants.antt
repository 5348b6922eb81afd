use Rattle.std.proofs.Common.{◌≡◌, ◌++◌, ◌-◌, length, drop}
use Rattle.reql_feed_range.proofs.opening.append.Given as goal

abbrev pub invariant-loop-item : goal.invariant-loop-item
invariant-loop-item l = l.all ++ drop l.place l.part ≡ l.initial.all ++ l.part

abbrev pub decreases-loop-item : goal.decreases-loop-item
decreases-loop-item l = length l.part - l.place
