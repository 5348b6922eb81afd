use Rattle.reql_session_spec.specs.Tasks.{fitted, settle}
use Rattle.reql_session_api.specs.Meant.{arms_of}
use Rattle.reql_open_cursors.specs.Kept.{books_of}
use Rattle.reql_session.specs.Settling.{working}
use Rattle.reql_session.proofs.Ended.{course_ends}
use Rattle.reql_session.proofs.ending.end_with.Goals as goal

pub returns-clause-ended : goal.returns-clause-ended
returns-clause-ended g c = λ k c' clock dice to a next comes e.
    course_ends k (g.L.Link.tape c.args.link.now) (g.L.Link.tape c.settle.new.link) (working g.C.Engine.some_state c.args.desk.now (books_of c.args.shelf.now) clock dice) (working g.C.Engine.some_state c.settle.new.desk (books_of c.settle.new.shelf) clock dice)
    (books_of c.args.shelf.now) c.args.token c' (arms_of c.args.arms.now) to (settle k (books_of c.args.shelf.now) c.args.token (arms_of c.args.arms.now) a) c.settle.result next comes (c.settle.ensures.settled k clock dice (fitted k a) e)
