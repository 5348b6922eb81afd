use Rattle.std.proofs.Common.{◌≡◌, ◌++◌, ◌-◌, length, drop, map}
use Rattle.reql_datum.specs.Plain.{text}
use Rattle.reql_apply_path.proofs.members.keys.Given as goal

abbrev pub invariant-loop-name : goal.invariant-loop-name
invariant-loop-name l = l.names ++ map (λ m. text m.0) (drop l.place l.fields) ≡ map (λ m. text m.0) l.fields

abbrev pub decreases-loop-name : goal.decreases-loop-name
decreases-loop-name l = length l.fields - l.place
