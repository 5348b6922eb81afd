use Rattle.reql_simple.specs.Found.{document}
use Rattle.reql_simple.proofs.Rules.{negation_stands}
use Rattle.reql_simple.proofs.applied.by_one.Goals as goal

pub returns-in-Negation : goal.returns-in-Negation
returns-in-Negation c limit vars s h = rw (c.in-Negation.is, c.is_true.ensures) (negation_stands limit s vars (document c.args.x.now) h)
