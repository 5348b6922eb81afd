use Rattle.std.proofs.Common.{false}
use Rattle.reql_open_cursors.specs.Kept.{books_of}
use Rattle.reql_session.specs.Settling.{working}
use Rattle.reql_session.proofs.Turned.{read_or_not}
use Rattle.reql_session.proofs.beginning.take_up.Goals as goal

pub returns-in-Ok-clause-taken : goal.returns-in-Ok-clause-taken
returns-in-Ok-clause-taken g c =
    read_or_not (g.P.Planning.talk c.args.planner.now) _ _ (working g.C.Engine.some_state c.args.desk.now (books_of c.args.shelf.now) (g.T.Clock.told c.args.clock.now) (g.D.Dice.told c.args.dice.now)) (working g.C.Engine.some_state c.begin.new.desk (books_of c.begin.new.shelf) (g.T.Clock.told c.begin.new.clock) (g.D.Dice.told c.begin.new.dice)) c.args.token c.args.body.now _ c.begin.result c.in-Ok.ensures c.begin.ensures.begun

pub returns-in-Err-clause-taken : goal.returns-in-Err-clause-taken
returns-in-Err-clause-taken g c = (false, c.tell_internal.ensures (g.P.Planning.talk c.args.planner.now) (working g.C.Engine.some_state c.args.desk.now (books_of c.args.shelf.now) (g.T.Clock.told c.args.clock.now) (g.D.Dice.told c.args.dice.now)))
