use denote.Param.{param}
use denote.Param.Send.{sendable}
use Rattle.reql_shared.proofs.Sends.{pass_send}
use Rattle.reql_shared.proofs.threads.passes_cross_threads.Goals as goal

pub is_send-requires-send-T : goal.is_send-requires-send-T
is_send-requires-send-T g c κs within =
    let p = pass_send (param 0 g.row.E) (param 1 g.row.E-Cmd) (param 2 g.row.E-Reply) (param 3 g.row.E-Question) (param 4 g.row.E-Answer) (param 5 g.row.E-State) (param 6 g.row.E-Told) (param 7 g.row.E-Heard) g.E.Engine c.type_bounds.send-E in search sendable
