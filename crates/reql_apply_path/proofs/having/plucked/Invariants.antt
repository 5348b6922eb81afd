use Rattle.std.proofs.Common.{◌≡◌, ◌++◌, ◌-◌, List, length, drop, map}
use Rattle.reql_datum.specs.Plain.{Plain}
use Rattle.reql_rules.specs.Lists.{array_of}
use Rattle.reql_rules.specs.Patterns.{pluck}
use Rattle.reql_apply_path.proofs.having.plucked.Given as goal

abbrev pub invariant-loop-d : goal.invariant-loop-d
invariant-loop-d l = (ps : List Plain) → l.pattern ≡ array_of ps → l.parts ++ map (pluck ps) (drop l.place l.items) ≡ map (pluck ps) l.items

abbrev pub decreases-loop-d : goal.decreases-loop-d
decreases-loop-d l = length l.items - l.place
