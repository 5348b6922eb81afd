use Rattle.std.proofs.Common.{arith}
use Rattle.reql_term.specs.View.{form_of}
use Rattle.reql_plan_changes.proofs.Three.{three_test}
use Rattle.reql_plan_changes.proofs.keys.between_test.Goals as goal

pub returns-in-len3 : goal.returns-in-len3
returns-in-len3 c = three_test form_of c.args.terms.now c.low-item.result c.high-item.result c.args.fields.now c.bounds_test.result (omega (arith, c.in-len3.len_at_least, c.in-len3.len_below)) c.low-item.is c.high-item.is c.bounds_test.ensures
