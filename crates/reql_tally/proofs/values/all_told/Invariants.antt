use Rattle.std.proofs.Common.{◌≡◌, ◌++◌, ◌-◌, drop, length}
use Rattle.reql_tally.specs.Views.{told}
use Rattle.reql_tally.proofs.values.all_told.Given as goal

abbrev pub invariant-loop-item : goal.invariant-loop-item
invariant-loop-item l = l.values ++ told (drop l.place l.opening) ≡ told l.opening

abbrev pub decreases-loop-item : goal.decreases-loop-item
decreases-loop-item l = length l.opening - l.place
