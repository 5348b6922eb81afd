use denote.Param.{param}
use denote.Param.Send.{sendable}
use Rattle.reql_hall.proofs.Sends.{desk_send}
use Rattle.reql_hall.proofs.threads.desks_cross_threads.Goals as goal

pub is_send-requires-send-T : goal.is_send-requires-send-T
is_send-requires-send-T g c κs within =
    let d = desk_send (param 0 g.row.C) (param 1 g.row.N) (param 2 g.row.C-Cmd) (param 3 g.row.C-Reply) (param 4 g.row.C-Question) (param 5 g.row.C-Answer) (param 6 g.row.C-State) (param 7 g.row.C-Told) (param 8 g.row.C-Heard) (param 9 g.row.N-Cmd) (param 10 g.row.N-Reply) (param 11 g.row.N-Question) (param 12 g.row.N-Answer) (param 13 g.row.N-State) (param 14 g.row.N-Told) (param 15 g.row.N-Heard) g.C.Engine g.N.Engine c.type_bounds.send-C c.type_bounds.send-N in
    search sendable
