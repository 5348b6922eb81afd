use Rattle.std.proofs.Common.{◌≡◌, ◌-◌, ◌++◌, map, drop, length}
use Rattle.reql_datum.specs.Plain.{weight, list_weight}
use Rattle.reql_datum.specs.View.{plain}
use Rattle.reql_print.specs.Indexed.{made}
use Rattle.reql_print.proofs.index.+made.Given as goal

abbrev pub decreases-made : goal.decreases-made
decreases-made l = weight (plain l.datum.now)

abbrev pub decreases-all_made : goal.decreases-all_made
decreases-all_made l = list_weight l.items.now

abbrev pub invariant-all_made-loop-item : goal.invariant-all_made-loop-item
invariant-all_made-loop-item l = l.terms ++ map made (drop l.place l.items) ≡ map made l.items

abbrev pub decreases-all_made-loop-item : goal.decreases-all_made-loop-item
decreases-all_made-loop-item l = length l.items - l.place
