use Rattle.std.proofs.Common.{◌≡◌, ◌++◌, ◌-◌, List, length, drop}
use Rattle.std.specs.List.{filter}
use Rattle.reql_datum.specs.Plain.{Plain}
use Rattle.reql_scalar.specs.Among.{Holds, is_kept}
use Rattle.reql_scalar.proofs.sets.picked.Given as goal

abbrev pub invariant-loop-item : goal.invariant-loop-item
invariant-loop-item l = (vs : List Plain) → Holds l.set vs → l.kept ++ filter (is_kept l.among vs) (drop l.place l.list) ≡ filter (is_kept l.among vs) l.list

abbrev pub decreases-loop-item : goal.decreases-loop-item
decreases-loop-item l = length l.list - l.place
