use Rattle.reql_turns.proofs.Stepping.{poor_so}
use Rattle.reql_turns.proofs.session.serve_session.Goals as goal

pub returns-in_default-clause-served : goal.returns-in_default-clause-served
returns-in_default-clause-served g c = c.part.ensures.served (g.H.Handler.work c.args.handler.now) (poor_so (g.H.Handler.talk c.args.handler.now) (g.L.Link.tape c.args.link) (g.H.Handler.work c.args.handler.now) c.requires.fresh c.requires.books)

pub returns-in_default-received_room-clause-served : goal.returns-in_default-received_room-clause-served
returns-in_default-received_room-clause-served g c = c.part-in_default-received_room.ensures.served (g.H.Handler.work c.args.handler.now) (poor_so (g.H.Handler.talk c.args.handler.now) (g.L.Link.tape c.args.link) (g.H.Handler.work c.args.handler.now) c.requires.fresh c.requires.books)
