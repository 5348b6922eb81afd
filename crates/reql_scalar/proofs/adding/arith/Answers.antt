use Rattle.std.proofs.Common.{drop}
use Rattle.reql_datum.specs.View.{plain}
use Rattle.reql_scalar.proofs.Firsts.{the_others}
use Rattle.reql_scalar.proofs.adding.arith.Goals as goal

pub returns-in-Mul : goal.returns-in-Mul
returns-in-Mul c = rw (the_others c.args.op (plain c.in-Some.first.now) (drop 1 c.args.args.now) c.args.args.now c.in-Some.ensures.rest c.in-Mul.is) at c.numbers.ensures
