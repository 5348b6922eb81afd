use Rattle.reql_serve.proofs.Seated.{goes_on_there, sits_there}
use Rattle.reql_serve.proofs.Fitting.{its_ready, its_turns, went_on, went_away}
use Rattle.reql_serve.proofs.seat.serve_place.Goals as goal

pub ask-requires-clause-of_this_hall : goal.ask-requires-clause-of_this_hall
ask-requires-clause-of_this_hall g c = sits_there _ _ _ _ _ _ _ _ _ _ c.args.worker.now c.args.sitting c.in_default.is c.requires.ready c.requires.seat

pub tend-ended-requires-clause-ready : goal.tend-ended-requires-clause-ready
tend-ended-requires-clause-ready g c =
    let t = goes_on_there _ _ _ _ _ _ _ _ _ _ c.args.worker.now c.in-Some.sitting c.args.sitting c.in-Some.is c.requires.ready c.requires.seat in
    its_ready g.P.Planning.talk c.args.ground.now.hall.now (g.P.Planning.talk c.args.ground.now.planner.now) c.in-Some.sitting.handler t.fits

pub tend-ended-requires-clause-on : goal.tend-ended-requires-clause-on
tend-ended-requires-clause-on g c =
    let t = goes_on_there _ _ _ _ _ _ _ _ _ _ c.args.worker.now c.in-Some.sitting c.args.sitting c.in-Some.is c.requires.ready c.requires.seat in
    its_turns g.P.Planning.talk c.args.ground.now.hall.now (g.P.Planning.talk c.args.ground.now.planner.now) g.C.Engine.some_state g.G.Link.Link.tape g.T.Clock.told g.D.Dice.told c.in-Some.sitting t.fits t.on

pub returns-in_default-ended : goal.returns-in_default-ended
returns-in_default-ended g c =
    let t = goes_on_there _ _ _ _ _ _ _ _ _ _ c.args.worker.now c.in-Some.sitting c.args.sitting c.in-Some.is c.requires.ready c.requires.seat in
    let e = c.tend-ended.ensures in
    went_on g.P.Planning.talk g.C.Engine.some_state g.G.Link.Link.kept g.G.Link.Link.tape g.T.Clock.told g.D.Dice.told g.G.Door.told c.args.ground.now.hall.now (g.P.Planning.talk c.args.ground.now.planner.now)
    c.args.worker.now c.in-Some.sitting (record { handler = c.tend-ended.new.handler; running = c.tend-ended.new.running }) c.args.sitting c.tend-ended.result c.in-Some.is c.requires.ready t e.ready e.hall e.talk e.steps c.in_default-ended.is

pub leave-requires-clause-room : goal.leave-requires-clause-room
leave-requires-clause-room g c = (goes_on_there _ _ _ _ _ _ _ _ _ _ c.args.worker.now c.in-Some.sitting c.args.sitting c.in-Some.is c.requires.ready c.requires.seat).room

pub leave-requires-clause-share : goal.leave-requires-clause-share
leave-requires-clause-share g c = (goes_on_there _ _ _ _ _ _ _ _ _ _ c.args.worker.now c.in-Some.sitting c.args.sitting c.in-Some.is c.requires.ready c.requires.seat).share

pub returns : goal.returns
returns g c =
    let t = goes_on_there _ _ _ _ _ _ _ _ _ _ c.args.worker.now c.in-Some.sitting c.args.sitting c.in-Some.is c.requires.ready c.requires.seat in
    let e = c.tend-ended.ensures in
    went_away g.P.Planning.talk g.C.Engine.some_state g.G.Link.Link.kept g.G.Link.Link.tape g.T.Clock.told g.D.Dice.told g.G.Door.told c.args.ground.now.hall.now (g.P.Planning.talk c.args.ground.now.planner.now)
    c.args.worker.now c.leave.new.worker c.in-Some.sitting (record { handler = c.tend-ended.new.handler; running = c.tend-ended.new.running }) c.args.sitting c.tend-ended.result c.in-Some-ended.end c.in-Some.is c.requires.ready t e.hall e.talk e.steps c.in-Some-ended.is c.leave.ensures
