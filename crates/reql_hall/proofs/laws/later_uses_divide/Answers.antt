use Rattle.reql_hall.proofs.Joining.{divides_more}
use Rattle.reql_hall.proofs.laws.later_uses_divide.Goals as goal

pub returns : goal.returns
returns g c = divides_more
