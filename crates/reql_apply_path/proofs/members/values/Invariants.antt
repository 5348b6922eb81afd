use Rattle.std.proofs.Common.{◌≡◌, ◌++◌, ◌-◌, length, drop, map}
use Rattle.reql_apply_path.proofs.members.values.Given as goal

abbrev pub invariant-loop-name : goal.invariant-loop-name
invariant-loop-name l = l.values ++ map (λ m. m.1) (drop l.place l.fields) ≡ map (λ m. m.1) l.fields

abbrev pub decreases-loop-name : goal.decreases-loop-name
decreases-loop-name l = length l.fields - l.place
