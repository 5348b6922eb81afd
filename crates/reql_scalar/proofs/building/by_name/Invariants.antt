use Rattle.std.proofs.Common.{◌≡◌, ◌++◌, ◌-◌, length, drop}
use Rattle.reql_scalar.specs.Two.{gathered}
use Rattle.reql_scalar.proofs.building.by_name.Given as goal

abbrev pub invariant-loop-name : goal.invariant-loop-name
invariant-loop-name l = gathered l.named.entries ++ drop l.place l.fields ≡ l.fields

abbrev pub decreases-loop-name : goal.decreases-loop-name
decreases-loop-name l = length l.fields - l.place
