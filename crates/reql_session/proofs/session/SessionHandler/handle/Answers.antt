use Rattle.reql_open_cursors.specs.Kept.{books_of}
use Rattle.reql_session.specs.Settling.{working}
use Rattle.reql_session.proofs.Turned.{frame_begun}
use Rattle.reql_session.proofs.session.SessionHandler.handle.Goals as goal

pub returns-clause-handled : goal.returns-clause-handled
returns-clause-handled g c = λ rest f.
    let taken = rw c.as_slice.ensures at c.take_up.ensures.taken in
    frame_begun (g.P.Planning.talk c.args.self.now.planner.now) _ _ (working g.C.Engine.some_state c.args.self.now.desk (books_of c.args.self.now.shelf) (g.T.Clock.told c.args.self.now.clock) (g.D.Dice.told c.args.self.now.dice)) (working g.C.Engine.some_state c.take_up.new.desk (books_of c.take_up.new.shelf) (g.T.Clock.told c.take_up.new.clock) (g.D.Dice.told c.take_up.new.dice)) c.args.frame.now taken.0 rest c.take_up.result f taken.1
