use Rattle.std.specs.Prelude.{◌≡◌, length}
use Rattle.reql_serve.specs.Seats.{ServesAll}
use Rattle.reql_serve.specs.Sessions.{IsFit, at_work}
use Rattle.reql_serve.proofs.group.serve_in_turns.Given as goal

abbrev pub invariant-loop : goal.invariant-loop
invariant-loop g l = (length l.workers ≡ length l.initial.workers)
    × (length l.sittings ≡ length l.initial.sittings)
    × (length l.buf ≡ length l.initial.buf)
    × ServesAll (g.P.Planning.talk l.fn.ground.planner.now) g.C.Engine.some_state g.G.Link.Link.kept g.G.Link.Link.tape g.T.Clock.told g.D.Dice.told g.G.Door.told
    (at_work g.C.Engine.some_state g.T.Clock.told g.D.Dice.told) (IsFit g.P.Planning.talk l.fn.ground.hall.now (g.P.Planning.talk l.fn.ground.planner.now)) l.fn.ground.hall.now
    l.initial.workers l.initial.sittings l.workers l.sittings
