use Rattle.std.proofs.Common.{Some, map, take, drop, length, refl, sym, ap, subst, ◌∙◌}
use Rattle.reql_session_spec.specs.Requests.{Batch, stamped}
use Rattle.reql_session_spec.specs.Books.{with_left}
use Rattle.reql_session_spec.specs.Tasks.{cut_to}
use Rattle.reql_session_api.specs.Meant.{shown_of}
use Rattle.reql_open_cursors.specs.Kept.{books_of, feed_kept}
use Rattle.reql_session.specs.Keeping.{Keeps}
use Rattle.reql_session.specs.Settling.{working}
use Rattle.reql_session.proofs.Tokens.{found_is, keeps_left}
use Rattle.reql_session.proofs.Batched.{tells_long, tells_lost, tells_so}
use Rattle.reql_session.proofs.Given.{batch_bytes}
use Rattle.reql_session.proofs.batching.tell_items.Goals as goal

pub returns-in_default-feed_batch-clause-told : goal.returns-in_default-feed_batch-clause-told
returns-in_default-feed_batch-clause-told g c = λ k clock dice f l found.
    tells_lost k _ _ (working g.C.Engine.some_state c.args.desk.now (books_of c.args.shelf.now) clock dice) (working g.C.Engine.some_state c.lose.new.desk (books_of c.lose.new.shelf) clock dice)
    (books_of c.args.shelf.now) (with_left c.args.token (map (shown_of f.arms) (drop c.args.count c.args.shown.items)) (books_of c.args.shelf.now)) c.args.token
    (Batch f.notes (map (shown_of f.arms) (take c.args.count c.args.shown.items)) (Some (stamped c.args.shelf.now.names c.args.points.now))) f.arms c.lose.result
    (c.lose.ensures.lost k clock dice f found)

pub returns-then-is_long-clause-told : goal.returns-then-is_long-clause-told
returns-then-is_long-clause-told g c = λ k clock dice f l found.
    let a = Batch f.notes (map (shown_of f.arms) (take c.args.count c.args.shown.items)) (Some (stamped c.args.shelf.now.names c.args.points.now)) in
    tells_long k _ _ (working g.C.Engine.some_state c.args.desk.now (books_of c.args.shelf.now) clock dice) (working g.C.Engine.some_state c.lose_with.new.desk (books_of c.lose_with.new.shelf) clock dice)
    (books_of c.args.shelf.now) (with_left c.args.token (map (shown_of f.arms) (drop c.args.count c.args.shown.items)) (books_of c.args.shelf.now)) c.args.token a f.arms (Some f.arms) c.lose_with.result
    (sym (c.is_long.ensures k a l (batch_bytes c.in-Some.feed.now f c.as_slice-2.result.now c.as_slice-3.result.now c.first_ones-batch.result.now c.as_slice.result.now c.args.shown.items c.args.count _
    (found_is c.args.token (books_of c.args.shelf.now).feeds c.in-Some.feed.now f c.in-Some.ensures found) c.as_slice-2.ensures c.first_ones-batch.ensures c.as_slice.ensures.value (c.as_slice-3.ensures.value ∙ c.in-Ok.ensures f.arms))) ∙ c.if-is_long.true)
    (c.lose_with.ensures.lost k clock dice f (cut_to k a) found (c.cut_to-cut.ensures k a l refl))

pub returns-in-Ok-say-clause-keeps : goal.returns-in-Ok-say-clause-keeps
returns-in-Ok-say-clause-keeps g c = λ rest off keeps.
    subst (Keeps (length c.args.hall.now.slots) rest) (sym (c.put_left.ensures (feed_kept c.in-Some.feed.now) keeps.apart (sym c.in-Some.ensures)))
    (keeps_left (length c.args.hall.now.slots) c.args.token _ rest (books_of c.args.shelf.now) off keeps)

pub returns-in-Ok-say-clause-told : goal.returns-in-Ok-say-clause-told
returns-in-Ok-say-clause-told g c = λ k clock dice f l found.
    let a = Batch f.notes (map (shown_of f.arms) (take c.args.count c.args.shown.items)) (Some (stamped c.args.shelf.now.names c.args.points.now)) in
    let same = found_is c.args.token (books_of c.args.shelf.now).feeds c.in-Some.feed.now f c.in-Some.ensures found in
    tells_so k _ _ (working g.C.Engine.some_state c.args.desk.now (books_of c.args.shelf.now) clock dice) (working g.C.Engine.some_state c.args.desk.now (books_of c.put_left.new.self) clock dice)
    (books_of c.args.shelf.now) (with_left c.args.token (map (shown_of f.arms) (drop c.args.count c.args.shown.items)) (books_of c.args.shelf.now)) c.args.token a f.arms (Some f.arms) c.as_slice-4.result.now c.in-Ok-say.whole c.is_long.result c.after.result
    (ap (λ z. working g.C.Engine.some_state c.args.desk.now z clock dice) (c.put_left.ensures f c.requires.apart found))
    (batch_bytes c.in-Some.feed.now f c.as_slice-2.result.now c.as_slice-4.result.now c.first_ones-batch.result.now c.as_slice.result.now c.args.shown.items c.args.count _ same c.as_slice-2.ensures c.first_ones-batch.ensures c.as_slice.ensures.value (c.as_slice-4.ensures.value ∙ c.in-Ok.ensures f.arms))
    (c.is_long.ensures k a l (batch_bytes c.in-Some.feed.now f c.as_slice-2.result.now c.as_slice-3.result.now c.first_ones-batch.result.now c.as_slice.result.now c.args.shown.items c.args.count _ same c.as_slice-2.ensures c.first_ones-batch.ensures c.as_slice.ensures.value (c.as_slice-3.ensures.value ∙ c.in-Ok.ensures f.arms)))
    c.if-is_long.false c.in-Ok-say.ensures.said c.after.ensures

pub returns-in-Err-clause-told : goal.returns-in-Err-clause-told
returns-in-Err-clause-told g c = λ k clock dice f l found.
    tells_lost k _ _ (working g.C.Engine.some_state c.args.desk.now (books_of c.args.shelf.now) clock dice) (working g.C.Engine.some_state c.lose-in-Err.new.desk (books_of c.lose-in-Err.new.shelf) clock dice)
    (books_of c.args.shelf.now) (with_left c.args.token (map (shown_of f.arms) (drop c.args.count c.args.shown.items)) (books_of c.args.shelf.now)) c.args.token
    (Batch f.notes (map (shown_of f.arms) (take c.args.count c.args.shown.items)) (Some (stamped c.args.shelf.now.names c.args.points.now))) f.arms c.lose-in-Err.result
    (rw c.in-Err.ensures.unsaid at (c.lose-in-Err.ensures.lost k clock dice f found))
