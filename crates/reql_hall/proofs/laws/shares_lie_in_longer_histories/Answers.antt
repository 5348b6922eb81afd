use Rattle.reql_hall.proofs.Joining.{share_lies_longer}
use Rattle.reql_hall.proofs.laws.shares_lie_in_longer_histories.Goals as goal

pub returns : goal.returns
returns g c = share_lies_longer
