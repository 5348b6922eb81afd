use Rattle.reql_wire.proofs.Fronts.{over_stands}
use Rattle.reql_wire.proofs.frame_laws.over_stands.Goals as goal

pub returns : goal.returns
returns c = over_stands
