use denote.Param.{param}
use denote.Param.Send.{sendable}
use Rattle.reql_core.proofs.Sends.{core_send}
use Rattle.reql_core.proofs.threads.cores_cross_threads.Goals as goal

pub is_send-requires-send-T : goal.is_send-requires-send-T
is_send-requires-send-T g c κs within =
    let s = core_send (param 0 g.row.F) (param 1 g.row.F-Step) g.F.Following c.type_bounds.send-F in
    search sendable
