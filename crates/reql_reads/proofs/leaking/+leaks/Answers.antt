use Rattle.std.proofs.Common.{sym, arith}
use Rattle.reql_term.specs.View.{form_of}
use Rattle.reql_faults.proofs.Below.{field_below}
use Rattle.reql_reads.proofs.leaking.+leaks.Goals as goal

pub named_leak-leaks_in-requires : goal.named_leak-leaks_in-requires
named_leak-leaks_in-requires t c = let below = field_below c.args.fields.now c.loop-field.place c.in-Some.field.0.now (form_of c.in-Some.field.1.now) (sym c.in-Some.ensures.found) in grind (arith, below)
