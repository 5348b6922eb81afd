use Rattle.std.proofs.Common.{[], None, refl, sym, ◌∙◌, subst}
use Rattle.reql_session_spec.specs.Requests.{Last}
use Rattle.reql_session_spec.specs.Books.{closed}
use Rattle.reql_session_spec.specs.Tasks.{Telling, at}
use Rattle.reql_open_cursors.specs.Kept.{books_of}
use Rattle.reql_session.specs.Settling.{working, Settles}
use Rattle.reql_session.proofs.Kept.{keeps_closed, keeps_as}
use Rattle.reql_session.proofs.Settled.{settles_so, settles_want}
use Rattle.reql_session.proofs.stopping.stop_cursor.Goals as goal

pub returns-in_default-clause-stopped : goal.returns-in_default-clause-stopped
returns-in_default-clause-stopped g c = λ k some desk clock dice x.
    let b = books_of c.args.shelf.now in
    let w = working some desk b clock dice in
    settles_want k _ _ w w b (Telling c.args.token (Last [] None) (closed c.args.token b) None None) c.tell_internal.result (c.tell_internal.ensures k w)

pub returns-clause-stopped : goal.returns-clause-stopped
returns-clause-stopped g c = λ k some desk clock dice x.
    let b = books_of c.args.shelf.now in
    let w = working some desk b clock dice in
    settles_want k _ _ w w b (Telling c.args.token (Last [] None) (closed c.args.token b) None None) c.tell_internal-in-Err.result (rw c.in-Err.ensures.unsaid at (c.tell_internal-in-Err.ensures k w))

pub returns-in-Ok-say-clause-keeps : goal.returns-in-Ok-say-clause-keeps
returns-in-Ok-say-clause-keeps g c = λ n h. keeps_as n [] _ _ (sym c.close.ensures) (keeps_closed n c.args.token _ h)

pub returns-in-Ok-say-clause-stopped : goal.returns-in-Ok-say-clause-stopped
returns-in-Ok-say-clause-stopped g c = λ k some desk clock dice x.
    let b = books_of c.args.shelf.now in
    subst (λ z. Settles k (g.L.Link.tape c.args.link.now) (g.L.Link.tape c.say.new.link) (working some desk b clock dice) (working some desk z clock dice) (at b (Telling c.args.token (Last [] None) (closed c.args.token b) None None)) c.after.result) (sym c.close.ensures)
    (settles_so k _ _ (working some desk (closed c.args.token b) clock dice) b (closed c.args.token b) c.args.token (Last [] None) None c.as_slice.result.now c.in-Ok-say.whole c.after.result refl (c.as_slice.ensures.value ∙ c.in-Ok.ensures) c.in-Ok-say.ensures.said c.after.ensures)
