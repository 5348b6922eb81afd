use Rattle.std.proofs.Common.{[], length, sym, subst}
use Rattle.reql_table_spec.specs.Replies.{said_of}
use Rattle.reql_session_spec.specs.Tasks.{took_said}
use Rattle.reql_desk_moves.specs.Steps.{put_points, VisitsArms}
use Rattle.reql_open_cursors.specs.Kept.{books_of}
use Rattle.reql_session.specs.Keeping.{Keeps}
use Rattle.reql_session.specs.Settling.{working, Settles}
use Rattle.reql_session.proofs.Tokens.{feed_token, keeps_waits}
use Rattle.reql_session.proofs.Given.{visit_waits, visit_denied, visit_on}
use Rattle.reql_session.proofs.visiting.came.Goals as goal

pub returns-in-Waits-clause-keeps : goal.returns-in-Waits-clause-keeps
returns-in-Waits-clause-keeps g c = λ rest f found none off keeps.
    subst (Keeps (length c.args.hall.now.slots) rest) (sym c.wait.ensures) (keeps_waits (length c.args.hall.now.slots) c.args.token rest (books_of c.args.shelf.now) f found none off keeps)

pub returns-in-Waits-clause-told : goal.returns-in-Waits-clause-told
returns-in-Waits-clause-told g c = λ k clock dice f before l n found v.
    visit_waits k g.C.Engine.some_state _ before c.args.desk.now (books_of c.args.shelf.now) (books_of c.wait.new.self) clock dice c.args.token f (feed_token c.args.token (books_of c.args.shelf.now).feeds f found) c.wait.ensures
    (subst (VisitsArms k g.C.Engine.some_state before c.args.desk.now (books_of c.args.shelf.now) f) c.in-Waits.is v)

pub returns-in-Denied-clause-told : goal.returns-in-Denied-clause-told
returns-in-Denied-clause-told g c = λ k clock dice f before l n found v.
    visit_denied k g.C.Engine.some_state _ _ before c.args.desk.now (books_of c.args.shelf.now) clock dice c.args.token f c.tell_internal.result (feed_token c.args.token (books_of c.args.shelf.now).feeds f found)
    (subst (VisitsArms k g.C.Engine.some_state before c.args.desk.now (books_of c.args.shelf.now) f) c.in-Denied.is v)
    (c.tell_internal.ensures k (working g.C.Engine.some_state c.args.desk.now (books_of c.args.shelf.now) clock dice))

pub returns-in-Took-clause-told : goal.returns-in-Took-clause-told
returns-in-Took-clause-told g c = λ k clock dice f before l n found v.
    let took = subst (VisitsArms k g.C.Engine.some_state before c.args.desk.now (books_of c.args.shelf.now) f) c.in-Took.is v in
    visit_on k g.C.Engine.some_state (g.L.Link.tape c.args.link.now) (g.L.Link.tape c.took.new.link) before c.args.desk.now c.took.new.desk (books_of c.args.shelf.now) (books_of c.took.new.shelf) clock dice f
    (took_said k (books_of c.args.shelf.now) f took.0 took.1 (put_points [] c.in-Took.points) (said_of c.in-Took.reply.said)) c.took.result took.4
    (subst (λ z. Settles k (g.L.Link.tape c.args.link.now) (g.L.Link.tape c.took.new.link) (working g.C.Engine.some_state c.args.desk.now (books_of c.args.shelf.now) clock dice) (working g.C.Engine.some_state c.took.new.desk (books_of c.took.new.shelf) clock dice) (took_said k (books_of c.args.shelf.now) f took.0 took.1 (put_points [] z) (said_of c.in-Took.reply.said)) c.took.result) c.as_slice.ensures
    (c.took.ensures.told k clock dice f took.0 took.1 l n found took.2 took.3))
