use Rattle.reql_wire.proofs.Fronts.{front_spelling}
use Rattle.reql_wire.proofs.frame_laws.front_of_spelling.Goals as goal

pub returns : goal.returns
returns c = front_spelling
