use Rattle.std.proofs.Common.{sym, arith}
use Rattle.reql_term.specs.View.{form_of}
use Rattle.reql_print.proofs.Below.{field_below}
use Rattle.reql_print.proofs.levels.+levels.Goals as goal

pub named_fit-fits-requires : goal.named_fit-fits-requires
named_fit-fits-requires t c = let below = field_below c.args.fields.now c.loop-field.place c.in-Some.field.0.now (form_of c.in-Some.field.1.now) (sym c.in-Some.ensures.found) in grind (arith, below)
