use Rattle.reql_hall.proofs.Joining.{divides_learnt}
use Rattle.reql_hall.proofs.laws.learning_divides.Goals as goal

pub returns : goal.returns
returns g c = divides_learnt
