use Rattle.std.proofs.Common.{Some, ap, rules}
use Rattle.reql_session.proofs.Given.{some_at}
use Rattle.reql_session.proofs.gone.arm_at.Goals as goal

pub returns : goal.returns
returns c = λ arm rest e. ap Some (some_at c.args.at c.args.arms.now c.index-arms-at.result arm rest (search rules) c.index-arms-at.is e)
