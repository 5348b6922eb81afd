use Rattle.reql_wire.proofs.Fronts.{spelled_there}
use Rattle.reql_wire.proofs.frame_laws.spelled.Goals as goal

pub returns : goal.returns
returns c = spelled_there
