use Rattle.std.proofs.Common.{◌≡◌, ◌-◌, drop, map, length}
use Rattle.reql_read.specs.Reading.{all_taken}
use Rattle.reql_read.proofs.quick_terms.takes_all.Given as goal

abbrev pub invariant-options : goal.invariant-options
invariant-options l = all_taken l.op (map (λ m. m.0) l.options) ≡ all_taken l.op (map (λ m. m.0) (drop l.place l.options))

abbrev pub decreases-options : goal.decreases-options
decreases-options l = length l.options - l.place
