use Rattle.std.proofs.Common.{inl, inr, [], None, take, drop, length, refl, sym, ap, subst, ◌∙◌}
use Rattle.reql_session_spec.specs.Requests.{Batch}
use Rattle.reql_session_spec.specs.Books.{with_left}
use Rattle.reql_session_spec.specs.Tasks.{cut_to}
use Rattle.reql_session_api.specs.Meant.{arms_of}
use Rattle.reql_open_cursors.specs.Kept.{books_of, feed_kept}
use Rattle.reql_session.specs.Keeping.{Keeps}
use Rattle.reql_session.specs.Settling.{working}
use Rattle.reql_session.proofs.Tokens.{feed_token, found_is, keeps_left, off_alone}
use Rattle.reql_session.proofs.Batched.{left_bytes, left_goes, tells_long, tells_so}
use Rattle.reql_session.proofs.continuing.continue_left.Goals as goal

pub returns-in_default-feed_batch-clause-continued : goal.returns-in_default-feed_batch-clause-continued
returns-in_default-feed_batch-clause-continued g c = λ k clock dice f x xs l found some.
    inr (c.tell_internal-in_default-feed_batch.ensures k (working g.C.Engine.some_state c.args.desk.now (books_of c.args.shelf.now) clock dice))

pub returns-then-is_long-clause-keeps : goal.returns-then-is_long-clause-keeps
returns-then-is_long-clause-keeps g c = λ off. c.lose_with.ensures.keeps [] (off_alone c.args.token (books_of c.args.shelf.now).waiting off) c.requires.keeps

pub returns-then-is_long-clause-continued : goal.returns-then-is_long-clause-continued
returns-then-is_long-clause-continued g c = λ k clock dice f x xs l found some.
    let a = Batch f.notes (take f.batch f.left) None in
    left_goes k _ _ _ _ (books_of c.args.shelf.now) f c.args.token x xs f.left c.lose_with.result (feed_token c.args.token (books_of c.args.shelf.now).feeds f found) some
    (inl (tells_long k _ _ (working g.C.Engine.some_state c.args.desk.now (books_of c.args.shelf.now) clock dice) (working g.C.Engine.some_state c.lose_with.new.desk (books_of c.lose_with.new.shelf) clock dice) (books_of c.args.shelf.now) (with_left c.args.token (drop f.batch f.left) (books_of c.args.shelf.now)) c.args.token a f.arms None c.lose_with.result
    (sym (c.is_long.ensures k a l (left_bytes c.in-Some.feed.now f c.as_slice.result.now c.as_slice-2.result.now c.first.result.now (found_is c.args.token (books_of c.args.shelf.now).feeds c.in-Some.feed.now f c.in-Some.ensures found) c.as_slice.ensures c.first.ensures
    (c.as_slice-2.ensures.value ∙ c.in-Ok.ensures (arms_of c.in-Some.feed.now.arms.items)))) ∙ c.if-is_long.true)
    (c.lose_with.ensures.lost k clock dice f (cut_to k a) found (c.cut_to-cut.ensures k a l refl))))

pub returns-in-Ok-say-clause-keeps : goal.returns-in-Ok-say-clause-keeps
returns-in-Ok-say-clause-keeps g c = λ off.
    subst (Keeps (length c.args.hall.now.slots) []) (sym (c.advance_feed.ensures (feed_kept c.in-Some.feed.now) c.requires.keeps.apart (sym c.in-Some.ensures)))
    (keeps_left (length c.args.hall.now.slots) c.args.token _ [] (books_of c.args.shelf.now) (off_alone c.args.token (books_of c.args.shelf.now).waiting off) c.requires.keeps)

pub returns-in-Ok-say-clause-continued : goal.returns-in-Ok-say-clause-continued
returns-in-Ok-say-clause-continued g c = λ k clock dice f x xs l found some.
    let a = Batch f.notes (take f.batch f.left) None in
    let same = found_is c.args.token (books_of c.args.shelf.now).feeds c.in-Some.feed.now f c.in-Some.ensures found in
    left_goes k _ _ _ _ (books_of c.args.shelf.now) f c.args.token x xs f.left c.after.result (feed_token c.args.token (books_of c.args.shelf.now).feeds f found) some
    (inl (tells_so k _ _ (working g.C.Engine.some_state c.args.desk.now (books_of c.args.shelf.now) clock dice) (working g.C.Engine.some_state c.args.desk.now (books_of c.advance_feed.new.self) clock dice)
    (books_of c.args.shelf.now) (with_left c.args.token (drop f.batch f.left) (books_of c.args.shelf.now)) c.args.token a f.arms None c.as_slice-3.result.now c.in-Ok-say.whole c.is_long.result c.after.result
    (ap (λ z. working g.C.Engine.some_state c.args.desk.now z clock dice) (c.advance_feed.ensures f c.requires.keeps.apart found))
    (left_bytes c.in-Some.feed.now f c.as_slice.result.now c.as_slice-3.result.now c.first.result.now same c.as_slice.ensures c.first.ensures (c.as_slice-3.ensures.value ∙ c.in-Ok.ensures (arms_of c.in-Some.feed.now.arms.items)))
    (c.is_long.ensures k a l (left_bytes c.in-Some.feed.now f c.as_slice.result.now c.as_slice-2.result.now c.first.result.now same c.as_slice.ensures c.first.ensures (c.as_slice-2.ensures.value ∙ c.in-Ok.ensures (arms_of c.in-Some.feed.now.arms.items))))
    c.if-is_long.false c.in-Ok-say.ensures.said c.after.ensures))

pub returns-clause-continued : goal.returns-clause-continued
returns-clause-continued g c = λ k clock dice f x xs l found some.
    inr (rw c.in-Err.ensures.unsaid at (c.tell_internal-in-Err.ensures k (working g.C.Engine.some_state c.args.desk.now (books_of c.args.shelf.now) clock dice)))
