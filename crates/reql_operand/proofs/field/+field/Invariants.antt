use Rattle.std.proofs.Common.{◌≡◌, ◌++◌, ◌-◌, drop, length, Ok}
use Rattle.reql_datum.specs.Answer.{◌>>=◌}
use Rattle.reql_datum.specs.Plain.{items_of, weight, list_weight}
use Rattle.reql_datum.specs.View.{plain}
use Rattle.reql_rules.specs.Fields.{fields_in}
use Rattle.reql_operand.proofs.field.+field.Given as goal

abbrev pub decreases-field_in : goal.decreases-field_in
decreases-field_in l = weight (plain l.d.now)

abbrev pub decreases-fields_in : goal.decreases-fields_in
decreases-fields_in l = list_weight l.items.now

abbrev pub invariant-fields_in-loop-d : goal.invariant-fields_in-loop-d
invariant-fields_in-loop-d l = fields_in l.name (items_of l.items) ≡ (fields_in l.name (items_of (drop l.place l.items)) >>= λ ws. Ok (l.found ++ ws))

abbrev pub decreases-fields_in-loop-d : goal.decreases-fields_in-loop-d
decreases-fields_in-loop-d l = length l.items - l.place
