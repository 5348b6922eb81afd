use Rattle.std.proofs.Common.{◌≡◌, None, IfOk, take, length, sym, ap, subst, ◌∙◌}
use Rattle.std.specs.Prelude.{nat_le}
use Rattle.reql_session_spec.specs.Requests.{Last, Part}
use Rattle.reql_session_spec.specs.Books.{Cursor}
use Rattle.reql_session_spec.specs.Bodies.{body}
use Rattle.reql_open_cursors.specs.Kept.{books_of, cursor_kept}
use Rattle.reql_open_cursors.proofs.Places.{same_some}
use Rattle.reql_session.proofs.Tokens.{cursor_token}
use Rattle.reql_session.proofs.Batched.{cursor_last, cursor_part}
use Rattle.reql_session.proofs.continuing.continue_cursor.Goals as goal

pub returns-then-is_last-clause-continued : goal.returns-then-is_last-clause-continued
returns-then-is_last-clause-continued g c = λ k w x l e apart found.
    let same : cursor_kept c.in-Some.cursor.now ≡ x = same_some (cursor_kept c.in-Some.cursor.now) x (c.in-Some.ensures ∙ found) in
    cursor_last k _ _ w _ (books_of c.args.shelf.now) x c.args.token c.tell_last.result c.is_last.result (cursor_token c.args.token (books_of c.args.shelf.now).cursors x found)
    (c.is_last.ensures ∙ ap (λ (z : Cursor). nat_le (length z.rest) z.batch) same) c.if-is_last.true
    (c.tell_last.ensures.told k w x l e (subst (λ z. IfOk c.last-written.result (λ b. b.items ≡ body (Last z None))) (c.left.ensures ∙ ap (λ (z : Cursor). z.rest) same) c.last-written.ensures))

pub returns-clause-keeps : goal.returns-clause-keeps
returns-clause-keeps g c = λ n keeps. c.tell_part.ensures.keeps n (cursor_kept c.in-Some.cursor.now) (sym c.in-Some.ensures) keeps

pub returns-clause-continued : goal.returns-clause-continued
returns-clause-continued g c = λ k w x l e apart found.
    let same : cursor_kept c.in-Some.cursor.now ≡ x = same_some (cursor_kept c.in-Some.cursor.now) x (c.in-Some.ensures ∙ found) in
    cursor_part k _ _ w _ (books_of c.args.shelf.now) x c.args.token c.tell_part.result c.is_last.result (cursor_token c.args.token (books_of c.args.shelf.now).cursors x found)
    (c.is_last.ensures ∙ ap (λ (z : Cursor). nat_le (length z.rest) z.batch) same) c.if-is_last.false
    (c.tell_part.ensures.told k w x l e apart found
    (subst (λ z. IfOk c.part-written.result (λ b. b.items ≡ body (Part z None))) (c.first.ensures ∙ ap (λ (z : Cursor). take z.batch z.rest) same) c.part-written.ensures))
