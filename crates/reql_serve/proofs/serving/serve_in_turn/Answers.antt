use Rattle.std.proofs.Common.{◌≡◌, [], arith}
use Rattle.reql_serve.specs.Working.{SitsAt}
use Rattle.reql_serve.proofs.InTurn.{of_front, of_back}
use Rattle.reql_serve.proofs.Crew.{they_worked}
use Rattle.reql_serve.proofs.serving.serve_in_turn.Goals as goal

pub serve_all-requires-clause-of_this_hall : goal.serve_all-requires-clause-of_this_hall
serve_all-requires-clause-of_this_hall g c κs within =
    of_back (λ w. SitsAt c.args.hall.now w.bench) c.args.workers.now c.split_at_mut-last.result.0.now c.split_at_mut-last.result.1.now c.split_at_mut-last.ensures.value c.requires.of_this_hall

pub serve_all-requires-clause-slots : goal.serve_all-requires-clause-slots
serve_all-requires-clause-slots g c κs within = c.requires.slots

pub serve_all-requires-clause-unused : goal.serve_all-requires-clause-unused
serve_all-requires-clause-unused g c κs within =
    of_back (λ w. w.ended.items ≡ []) c.args.workers.now c.split_at_mut-last.result.0.now c.split_at_mut-last.result.1.now c.split_at_mut-last.ensures.value c.requires.unused

pub serve_all-requires-2-clause-of_this_hall : goal.serve_all-requires-2-clause-of_this_hall
serve_all-requires-2-clause-of_this_hall g c κs within =
    of_front (λ w. SitsAt c.args.hall.now w.bench) c.args.workers.now c.split_at_mut-last.result.0.now c.split_at_mut-last.result.1.now c.split_at_mut-last.ensures.value c.requires.of_this_hall

pub serve_all-requires-2-clause-slots : goal.serve_all-requires-2-clause-slots
serve_all-requires-2-clause-slots g c κs within = c.requires.slots

pub serve_all-requires-2-clause-unused : goal.serve_all-requires-2-clause-unused
serve_all-requires-2-clause-unused g c κs within =
    of_front (λ w. w.ended.items ≡ []) c.args.workers.now c.split_at_mut-last.result.0.now c.split_at_mut-last.result.1.now c.split_at_mut-last.ensures.value c.requires.unused

pub returns : goal.returns
returns g c =
    they_worked (g.P.Planning.talk c.args.planner.now) g.C.Engine.some_state g.G.Link.Link.kept g.T.Clock.told g.D.Dice.told g.G.Door.told c.args.hall.now
    c.args.workers.now c.split_at_mut-last.result.0.now c.split_at_mut-last.result.1.now c.serve_all-2.new.workers c.serve_all.new.workers
    c.split_at_mut-last.ensures.value (omega (arith, c.serve_all-2.auto.workers)) c.serve_all-2.ensures c.serve_all.ensures
