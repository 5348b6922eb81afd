use Rattle.std.proofs.Common.{◌≡◌, ◌++◌, ◌-◌, List, length, drop, Ok}
use Rattle.reql_datum.specs.Answer.{◌>>=◌}
use Rattle.reql_datum.specs.Plain.{Plain}
use Rattle.reql_rules.specs.Lists.{array_of}
use Rattle.reql_value_spec.specs.Fields.{having}
use Rattle.reql_apply_path.proofs.having.those_having.Given as goal

abbrev pub invariant-loop-d : goal.invariant-loop-d
invariant-loop-d l = (ps : List Plain) → l.pattern ≡ array_of ps → having ps l.items ≡ (having ps (drop l.place l.items) >>= λ ds. Ok (l.kept ++ ds))

abbrev pub decreases-loop-d : goal.decreases-loop-d
decreases-loop-d l = length l.items - l.place
