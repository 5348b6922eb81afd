use Rattle.std.proofs.Common.{sym, arith}
use Rattle.reql_term.specs.View.{form_of}
use Rattle.reql_print.proofs.Below.{field_below}
use Rattle.reql_print.proofs.held.+held.Goals as goal

pub are_named_held-is_held-requires : goal.are_named_held-is_held-requires
are_named_held-is_held-requires t c = let below = field_below c.args.fields.now c.loop-field.place c.in-Some.field.0.now (form_of c.in-Some.field.1.now) (sym c.in-Some.ensures.found) in grind (arith, below)
