use Rattle.reql_hall.proofs.Joining.{share_lies}
use Rattle.reql_hall.proofs.laws.shares_lie.Goals as goal

pub returns : goal.returns
returns g c = share_lies g.C.Engine.some_state
