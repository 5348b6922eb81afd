use Rattle.std.proofs.Common.{sym, subst}
use Rattle.reql_session_api.specs.World.{IsServed}
use Rattle.reql_open_cursors.specs.Kept.{books_of}
use Rattle.reql_session.specs.Settling.{working}
use Rattle.reql_serve.proofs.seat.dismiss.Goals as goal

pub returns-clause-served : goal.returns-clause-served
returns-clause-served g c = λ start ended.
    let s = c.finish-served.new.handler in
    let b = c.into_bench-bench.ensures in
    record {
      books = books_of s.shelf;
      served = subst (λ w. IsServed (g.P.Planning.talk c.args.sitting.handler.planner.now) start w (g.G.Link.Link.kept c.finish-served.result.tape) c.finish-served.result.end c.finish-served.result.turns)
          (λ i. working g.C.Engine.some_state (sym b.desk i) (books_of s.shelf) (g.T.Clock.told (sym b.clock i)) (g.D.Dice.told (sym b.dice i))) (c.finish-served.ensures.served start ended);
    }
