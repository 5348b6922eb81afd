use Rattle.std.proofs.Common.{rules}
use denote.Param.{param}
use denote.Param.Send.{sendable}
use Rattle.std.proofs.Crossing.{crosses}
use Rattle.reql_serve.proofs.Chunks.{may_begin, worked_in}
use Rattle.reql_serve.proofs.Sends.{worker_send}
use Rattle.reql_serve.proofs.serving.serve_all.Goals as goal

pub for_each_chunk_mut-requires-send-T : goal.for_each_chunk_mut-requires-send-T
for_each_chunk_mut-requires-send-T g c κs within =
    let b = c.type_bounds in
    let w = worker_send (param 1 g.row.C) (param 3 g.row.G) (param 4 g.row.D) (param 5 g.row.T) (param 6 g.row.C-View) (param 9 g.row.G-Link) (param 10 g.row.G-Watch) (param 11 g.row.G-Link-Record) g.C.Engine b.send-C b.send-G b.send-D b.send-T b.send-G-Link-Record in
    search (sendable, crosses) depth 20

pub for_each_chunk_mut-requires-clause-accepts : goal.for_each_chunk_mut-requires-clause-accepts
for_each_chunk_mut-requires-clause-accepts g c κs within = λ start p is κs' r r' n vals ranges u fits x κs'' lives.
    may_begin c.args.hall.now c.args.slots c.args.workers.now c.seats_each-size.result start p.now is c.requires.of_this_hall c.requires.slots c.requires.unused

pub returns : goal.returns
returns g c = λ k w lt.
    let h = (c.for_each_chunk_mut.ensures.by_index k w lt).1 in
    worked_in (g.P.Planning.talk c.args.planner.now) g.C.Engine.some_state g.G.Link.Link.kept g.T.Clock.told g.D.Dice.told g.G.Door.told c.args.hall.now c.args.workers.now c.for_each_chunk_mut.new.s h.argument.now h.after_call.now k h.offset w (search rules) h.offset_in_chunk h.old_element h.new_element
