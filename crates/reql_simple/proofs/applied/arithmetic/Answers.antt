use Rattle.reql_simple.specs.Found.{document}
use Rattle.reql_simple.proofs.Rules.{arithmetic_stands}
use Rattle.reql_simple.proofs.applied.arithmetic.Goals as goal

pub returns-in-Some-reckoned : goal.returns-in-Some-reckoned
returns-in-Some-reckoned c limit vars s t h k =
    arithmetic_stands limit c.args.op s t vars (document c.args.x.now) (document c.args.y.now) c.in-Some.m c.in-Some-number.n c.in-Some-reckoned.k c.in-Some.ensures c.in-Some-number.ensures c.in-Some-reckoned.ensures h k
