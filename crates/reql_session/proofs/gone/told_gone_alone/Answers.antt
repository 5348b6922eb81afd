use Rattle.std.proofs.Common.{None, sym, subst, ◌∙◌}
use Rattle.reql_session_spec.specs.Books.{closed}
use Rattle.reql_open_cursors.specs.Kept.{books_of}
use Rattle.reql_session.specs.Keeping.{Keeps}
use Rattle.reql_session.proofs.Settled.{settles_so}
use Rattle.reql_session.proofs.Tokens.{keeps_closed}
use Rattle.reql_session.proofs.Batched.{with_books, says_wanted}
use Rattle.reql_session.proofs.gone.told_gone_alone.Goals as goal

pub returns-in_default-clause-told : goal.returns-in_default-clause-told
returns-in_default-clause-told g c = λ k w a is. says_wanted k _ _ w (books_of c.args.shelf.now) c.args.token a (closed c.args.token (books_of c.args.shelf.now)) c.tell_internal.result (c.tell_internal.ensures k (with_books w (books_of c.args.shelf.now)))

pub returns-in-Ok-say-clause-keeps : goal.returns-in-Ok-say-clause-keeps
returns-in-Ok-say-clause-keeps g c = λ n rest off keeps. subst (Keeps n rest) (sym c.close.ensures) (keeps_closed n c.args.token rest (books_of c.args.shelf.now) off keeps)

pub returns-in-Ok-say-clause-told : goal.returns-in-Ok-say-clause-told
returns-in-Ok-say-clause-told g c = λ k w a is.
    settles_so k _ _ (with_books w (books_of c.close.new.self)) (books_of c.args.shelf.now) (closed c.args.token (books_of c.args.shelf.now)) c.args.token a None c.as_slice.result.now c.in-Ok-say.whole c.after.result
    c.close.ensures (c.as_slice.ensures.value ∙ rw c.in-Ok.is at is) c.in-Ok-say.ensures.said c.after.ensures

pub returns-clause-told : goal.returns-clause-told
returns-clause-told g c = λ k w a is. says_wanted k _ _ w (books_of c.args.shelf.now) c.args.token a (closed c.args.token (books_of c.args.shelf.now)) c.tell_internal-in-Err.result (rw c.in-Err.ensures.unsaid at (c.tell_internal-in-Err.ensures k (with_books w (books_of c.args.shelf.now))))
