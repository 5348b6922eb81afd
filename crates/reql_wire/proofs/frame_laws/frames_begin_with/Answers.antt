use Rattle.reql_wire.proofs.Fronts.{first_of}
use Rattle.reql_wire.proofs.frame_laws.frames_begin_with.Goals as goal

pub returns : goal.returns
returns c = first_of
