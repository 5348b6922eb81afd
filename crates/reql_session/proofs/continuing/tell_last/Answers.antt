use Rattle.std.proofs.Common.{[], None, refl, sym, subst, ◌∙◌}
use Rattle.reql_session_spec.specs.Requests.{Last}
use Rattle.reql_session_spec.specs.Books.{closed}
use Rattle.reql_session_spec.specs.Tasks.{cut_to}
use Rattle.reql_open_cursors.specs.Kept.{books_of}
use Rattle.reql_session.specs.Keeping.{Keeps}
use Rattle.reql_session.proofs.Kept.{keeps_closed}
use Rattle.reql_session.proofs.Batched.{with_books, cursor_wants, cursor_cut, cursor_sent}
use Rattle.reql_session.proofs.continuing.tell_last.Goals as goal

pub returns-in_default-clause-told : goal.returns-in_default-clause-told
returns-in_default-clause-told g c = λ k w x l e is. cursor_wants k _ _ w _ (books_of c.args.shelf.now) c.args.token _ c.tell_internal.result e (c.tell_internal.ensures k (with_books w (books_of c.args.shelf.now))) refl

pub returns-then-is_long-clause-keeps : goal.returns-then-is_long-clause-keeps
returns-then-is_long-clause-keeps g c = λ n keeps. subst (Keeps n []) (sym c.close.ensures) (keeps_closed n c.args.token (books_of c.args.shelf.now) keeps)

pub returns-then-is_long-clause-told : goal.returns-then-is_long-clause-told
returns-then-is_long-clause-told g c = λ k w x l e is.
    cursor_cut k _ _ w (books_of c.args.shelf.now) (books_of c.close.new.self) (closed c.args.token (books_of c.args.shelf.now)) c.args.token (Last x.rest None) c.is_long.result c.tell.result
    (c.is_long.ensures k (Last x.rest None) l (c.as_slice.ensures.value ∙ rw c.in-Ok.is at is)) c.if-is_long.true c.close.ensures
    (c.tell.ensures k (with_books w (books_of c.close.new.self)) (cut_to k (Last x.rest None)) (c.cut_to-cut.ensures k (Last x.rest None) l refl))

pub returns-in-Ok-say-clause-keeps : goal.returns-in-Ok-say-clause-keeps
returns-in-Ok-say-clause-keeps g c = λ n keeps. subst (Keeps n []) (sym c.close-in-Ok-say.ensures) (keeps_closed n c.args.token (books_of c.args.shelf.now) keeps)

pub returns-in-Ok-say-clause-told : goal.returns-in-Ok-say-clause-told
returns-in-Ok-say-clause-told g c = λ k w x l e is.
    cursor_sent k _ _ w (books_of c.args.shelf.now) (books_of c.close-in-Ok-say.new.self) (closed c.args.token (books_of c.args.shelf.now)) c.args.token (Last x.rest None) c.as_slice-2.result.now c.in-Ok-say.whole c.is_long.result c.after.result
    c.close-in-Ok-say.ensures (c.as_slice-2.ensures.value ∙ rw c.in-Ok.is at is) (c.is_long.ensures k (Last x.rest None) l (c.as_slice.ensures.value ∙ rw c.in-Ok.is at is)) c.if-is_long.false c.in-Ok-say.ensures.said c.after.ensures

pub returns-clause-told : goal.returns-clause-told
returns-clause-told g c = λ k w x l e is.
    cursor_wants k _ _ w _ (books_of c.args.shelf.now) c.args.token _ c.tell_internal-in-Err.result e (rw c.in-Err.ensures.unsaid at (c.tell_internal-in-Err.ensures k (with_books w (books_of c.args.shelf.now)))) refl
