use Rattle.reql_simple.specs.Found.{document}
use Rattle.reql_simple.proofs.Rules.{comparison_stands}
use Rattle.reql_simple.proofs.applied.comparison.Goals as goal

pub returns-in-Some : goal.returns-in-Some
returns-in-Some c limit vars s t h k = comparison_stands limit c.args.op s t vars (document c.args.x.now) (document c.args.y.now) c.in-Some.b c.in-Some.ensures h k
