use Rattle.std.proofs.Common.{◌≡◌, ◌++◌, ◌-◌, length, drop, map}
use Rattle.reql_rules.specs.Objects.{as_pair}
use Rattle.reql_scalar.proofs.coercing.pairs.Given as goal

abbrev pub invariant-loop-name : goal.invariant-loop-name
invariant-loop-name l = l.pairs ++ map as_pair (drop l.place l.fields) ≡ map as_pair l.fields

abbrev pub decreases-loop-name : goal.decreases-loop-name
decreases-loop-name l = length l.fields - l.place
