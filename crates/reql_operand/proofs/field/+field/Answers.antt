use Rattle.std.proofs.Common.{rules, option_map}
use Rattle.reql_datum.specs.View.{plain}
use Rattle.reql_operand.proofs.Fields.{fields_step}
use Rattle.reql_operand.proofs.field.+field.Goals as goal

pub fields_in-loop-d-preserved : goal.fields_in-loop-d-preserved
fields_in-loop-d-preserved t c =
    fields_step c.args.name.now c.args.items.now c.loop-d.place (plain c.in-Some.d.now) (option_map plain c.in_ok-field.field) c.loop-d.found c.in_ok-found.found _
    (search rules) (search rules) (search rules) c.loop-d.invariant
