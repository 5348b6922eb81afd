use Rattle.reql_hall.proofs.Joining.{plays_grew}
use Rattle.reql_hall.proofs.laws.acts_are_uses.Goals as goal

pub returns : goal.returns
returns g c = plays_grew g.E.Engine.machine
