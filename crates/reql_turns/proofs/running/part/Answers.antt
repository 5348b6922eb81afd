use Rattle.reql_turns.proofs.Stepping.{served_so}
use Rattle.reql_turns.proofs.running.part.Goals as goal

pub returns-clause-served : goal.returns-clause-served
returns-clause-served g c = λ start s.
    rw c.finish-tape.ensures
    (served_so (g.H.Handler.talk c.args.handler.now) start (g.H.Handler.work c.args.handler.now) (g.H.Handler.work c.leave.new.self) (g.L.Link.tape c.args.link) c.args.end c.args.turns s c.leave.ensures.clock c.leave.ensures.dice c.leave.ensures.left)
