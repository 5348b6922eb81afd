use Rattle.std.proofs.Common.{[], length, map, Some, refl, sym, ap, ◌∙◌}
use Rattle.reql_session_spec.specs.Requests.{stamped}
use Rattle.reql_session_spec.specs.Books.{closed}
use Rattle.reql_session_spec.specs.Tasks.{cut_to}
use Rattle.reql_session_api.specs.Meant.{arms_of, shown_of}
use Rattle.reql_desk_moves.specs.Steps.{after_closing, put_points}
use Rattle.reql_open_cursors.specs.Kept.{books_of}
use Rattle.reql_open_cursors.proofs.There.{there_meant}
use Rattle.reql_session.specs.Settling.{working}
use Rattle.reql_session.proofs.Below.{there_here}
use Rattle.reql_session.proofs.Keeping.{still_feed, still_closed, still_after}
use Rattle.reql_session.proofs.Opened.{course_wanted, feed_left, feed_rest, items_first, batch_bytes, batch_told, feed_cut, feed_told, feed_unsaid}
use Rattle.reql_session.proofs.opening.open_feed.Goals as goal

pub returns-then-not-are_there-clause-keeps : goal.returns-then-not-are_there-clause-keeps
returns-then-not-are_there-clause-keeps g c = λ rest o w k. still_after _ rest _ _ c.args.feed.token _ c.give_up.ensures.books w k

pub returns-then-not-are_there-clause-opened : goal.returns-then-not-are_there-clause-opened
returns-then-not-are_there-clause-opened g c = λ k c' clock dice e r.
    course_wanted k (g.L.Link.tape c.args.link.now) (g.L.Link.tape c.give_up.new.link) (working g.C.Engine.some_state c.args.desk.now (books_of c.args.shelf.now) clock dice) (working g.C.Engine.some_state c.give_up.new.desk (books_of c.give_up.new.shelf) clock dice)
    (books_of c.args.shelf.now) (books_of c.args.shelf.now) c.args.feed.token c' c.args.noreply (arms_of c.as_slice-arms.result.now) (arms_of c.args.met.now.opened.items) c.give_up.result e refl (ap arms_of c.as_slice-arms.ensures.value)
    (c.give_up.ensures.settled k clock dice)

pub returns-in_default-clause-keeps : goal.returns-in_default-clause-keeps
returns-in_default-clause-keeps g c = λ rest o w k. still_after _ rest _ _ c.args.feed.token _ c.give_up-in_default.ensures.books w k

pub returns-in_default-clause-opened : goal.returns-in_default-clause-opened
returns-in_default-clause-opened g c = λ k c' clock dice e r.
    course_wanted k (g.L.Link.tape c.args.link.now) (g.L.Link.tape c.give_up-in_default.new.link) (working g.C.Engine.some_state c.args.desk.now (books_of c.args.shelf.now) clock dice) (working g.C.Engine.some_state c.give_up-in_default.new.desk (books_of c.give_up-in_default.new.shelf) clock dice)
    (books_of c.args.shelf.now) (books_of c.args.shelf.now) c.args.feed.token c' c.args.noreply (arms_of c.as_slice-arms.result.now) (arms_of c.args.met.now.opened.items) c.give_up-in_default.result e refl (ap arms_of c.as_slice-arms.ensures.value)
    (c.give_up-in_default.ensures.settled k clock dice)

pub returns-in_default-feed_batch-clause-keeps : goal.returns-in_default-feed_batch-clause-keeps
returns-in_default-feed_batch-clause-keeps g c = λ rest o w k. still_after _ rest _ _ c.args.feed.token _ c.give_up-in_default-feed_batch.ensures.books w k

pub returns-in_default-feed_batch-clause-opened : goal.returns-in_default-feed_batch-clause-opened
returns-in_default-feed_batch-clause-opened g c = λ k c' clock dice e r.
    course_wanted k (g.L.Link.tape c.args.link.now) (g.L.Link.tape c.give_up-in_default-feed_batch.new.link) (working g.C.Engine.some_state c.args.desk.now (books_of c.args.shelf.now) clock dice) (working g.C.Engine.some_state c.give_up-in_default-feed_batch.new.desk (books_of c.give_up-in_default-feed_batch.new.shelf) clock dice)
    (books_of c.args.shelf.now) (books_of c.args.shelf.now) c.args.feed.token c' c.args.noreply (arms_of c.as_slice-arms.result.now) (arms_of c.args.met.now.opened.items) c.give_up-in_default-feed_batch.result e refl (ap arms_of c.as_slice-arms.ensures.value)
    (c.give_up-in_default-feed_batch.ensures.settled k clock dice)

pub returns-in_default-room_for_feed-clause-keeps : goal.returns-in_default-room_for_feed-clause-keeps
returns-in_default-room_for_feed-clause-keeps g c = λ rest o w k. still_after _ rest _ _ c.args.feed.token (arms_of c.as_slice-arms.result.now) (c.give_up-in_default-room_for_feed.ensures.books ∙ ap (λ b. after_closing b c.args.feed.token (arms_of c.as_slice-arms.result.now)) c.room_for_feed.ensures.same) w k

pub returns-in_default-room_for_feed-clause-opened : goal.returns-in_default-room_for_feed-clause-opened
returns-in_default-room_for_feed-clause-opened g c = λ k c' clock dice e r.
    course_wanted k (g.L.Link.tape c.args.link.now) (g.L.Link.tape c.give_up-in_default-room_for_feed.new.link) (working g.C.Engine.some_state c.args.desk.now (books_of c.args.shelf.now) clock dice) (working g.C.Engine.some_state c.give_up-in_default-room_for_feed.new.desk (books_of c.give_up-in_default-room_for_feed.new.shelf) clock dice)
    (books_of c.room_for_feed.new.self) (books_of c.args.shelf.now) c.args.feed.token c' c.args.noreply (arms_of c.as_slice-arms.result.now) (arms_of c.args.met.now.opened.items) c.give_up-in_default-room_for_feed.result e c.room_for_feed.ensures.same (ap arms_of c.as_slice-arms.ensures.value)
    (c.give_up-in_default-room_for_feed.ensures.settled k clock dice)

pub finish-requires-clause-there : goal.finish-requires-clause-there
finish-requires-clause-there g c = there_here c.args.slots (length c.args.hall.now.slots) c.as_slice.result.now c.as_slice-then-is_long.result.now c.args.feed.arms.items c.as_slice.ensures.value c.as_slice-then-is_long.ensures.value c.requires.slots (sym c.are_there.ensures ∙ c.if-not-are_there.false)

pub returns-then-is_long-clause-keeps : goal.returns-then-is_long-clause-keeps
returns-then-is_long-clause-keeps g c = λ rest o w k. still_closed _ rest _ _ c.args.feed.token (c.close.ensures ∙ ap (closed c.args.feed.token) c.room_for_feed.ensures.same) w k

pub returns-then-is_long-clause-opened : goal.returns-then-is_long-clause-opened
returns-then-is_long-clause-opened g c = λ k c' clock dice e r.
    let seen = c.as_slice-3.ensures.value ∙ c.in-Ok.ensures ∙ ap (put_points []) c.as_slice-2.ensures.value in
    let written = batch_bytes c.args.shelf.now.names c.args.feed.batch c.as_slice-5.result.now c.as_slice-4.result.now c.args.feed.notes c.as_slice-3.result.now c.args.met.now.points.items (map (shown_of (arms_of c.args.feed.arms.items)) c.first.result.now) (map (shown_of (arms_of c.args.feed.arms.items)) c.args.feed.items.items) (c.as_slice-5.ensures.value ∙ c.in-Ok-feed_batch.ensures (arms_of c.args.feed.arms.items)) c.as_slice-4.ensures seen (items_first (arms_of c.args.feed.arms.items) c.args.feed.batch c.args.feed.from c.first.result.now c.args.feed.items.items c.first.ensures c.requires.fresh) in
    feed_cut k (g.L.Link.tape c.args.link.now) (g.L.Link.tape c.finish.new.link) (working g.C.Engine.some_state c.args.desk.now (books_of c.args.shelf.now) clock dice) (λ z. working g.C.Engine.some_state c.finish.new.desk z clock dice)
    (books_of c.args.shelf.now) (books_of c.close.new.self) c.args.feed.token c' (arms_of c.args.met.now.opened.items) (arms_of c.as_slice-then-is_long.result.now) (arms_of c.args.feed.arms.items) c.args.feed.notes (map (shown_of (arms_of c.args.feed.arms.items)) c.args.feed.items.items) c.args.limits.now c.args.met.now.points.items c.args.feed.batch c.finish.result
    r (c.close.ensures ∙ ap (closed c.args.feed.token) c.room_for_feed.ensures.same) (ap arms_of c.as_slice-then-is_long.ensures.value)
    (sym c.if-is_long.true ∙ c.is_long.ensures k (batch_told k (books_of c.args.shelf.now) c.args.met.now.points.items c.args.feed.batch c.args.feed.notes (map (shown_of (arms_of c.args.feed.arms.items)) c.args.feed.items.items)) r.limits written)
    (c.finish.ensures.finished k (books_of c.args.shelf.now) clock dice (cut_to k (batch_told k (books_of c.args.shelf.now) c.args.met.now.points.items c.args.feed.batch c.args.feed.notes (map (shown_of (arms_of c.args.feed.arms.items)) c.args.feed.items.items)))
    (c.cut_to-cut.ensures k (batch_told k (books_of c.args.shelf.now) c.args.met.now.points.items c.args.feed.batch c.args.feed.notes (map (shown_of (arms_of c.args.feed.arms.items)) c.args.feed.items.items)) r.limits (ap (λ ps. Some (stamped c.args.shelf.now.names ps)) (sym seen))))

pub finish_internal-requires-clause-there : goal.finish_internal-requires-clause-there
finish_internal-requires-clause-there g c = there_here c.args.slots (length c.args.hall.now.slots) c.as_slice.result.now c.as_slice-in-Err.result.now c.args.feed.arms.items c.as_slice.ensures.value c.as_slice-in-Err.ensures.value c.requires.slots (sym c.are_there.ensures ∙ c.if-not-are_there.false)

pub returns-in-Ok-say-clause-keeps : goal.returns-in-Ok-say-clause-keeps
returns-in-Ok-say-clause-keeps g c = λ rest o w k.
    still_feed _ rest _ _ (feed_left c.args.feed.token (arms_of c.args.feed.arms.items) c.args.feed.batch c.args.feed.notes (map (shown_of (arms_of c.args.feed.arms.items)) c.args.feed.items.items)) (feed_rest c.args.feed.token (arms_of c.args.feed.arms.items) c.args.feed.batch c.args.feed.notes c.args.feed.items.items (books_of c.args.shelf.now) (books_of c.open_feed.new.self) (books_of c.room_for_feed.new.self) c.open_feed.ensures c.room_for_feed.ensures.same)
    (there_meant (length c.args.hall.now.slots) c.args.feed.arms.items (there_here c.args.slots (length c.args.hall.now.slots) c.as_slice.result.now c.args.feed.arms.items c.args.feed.arms.items c.as_slice.ensures.value refl c.requires.slots (sym c.are_there.ensures ∙ c.if-not-are_there.false))) o k

pub returns-in-Ok-say-clause-opened : goal.returns-in-Ok-say-clause-opened
returns-in-Ok-say-clause-opened g c = λ k c' clock dice e r.
    let seen = c.as_slice-3.ensures.value ∙ c.in-Ok.ensures ∙ ap (put_points []) c.as_slice-2.ensures.value in
    let written = batch_bytes c.args.shelf.now.names c.args.feed.batch c.as_slice-5.result.now c.as_slice-4.result.now c.args.feed.notes c.as_slice-3.result.now c.args.met.now.points.items (map (shown_of (arms_of c.args.feed.arms.items)) c.first.result.now) (map (shown_of (arms_of c.args.feed.arms.items)) c.args.feed.items.items) (c.as_slice-5.ensures.value ∙ c.in-Ok-feed_batch.ensures (arms_of c.args.feed.arms.items)) c.as_slice-4.ensures seen (items_first (arms_of c.args.feed.arms.items) c.args.feed.batch c.args.feed.from c.first.result.now c.args.feed.items.items c.first.ensures c.requires.fresh) in
    let said = batch_bytes c.args.shelf.now.names c.args.feed.batch c.as_slice-6.result.now c.as_slice-4.result.now c.args.feed.notes c.as_slice-3.result.now c.args.met.now.points.items (map (shown_of (arms_of c.args.feed.arms.items)) c.first.result.now) (map (shown_of (arms_of c.args.feed.arms.items)) c.args.feed.items.items) (c.as_slice-6.ensures.value ∙ c.in-Ok-feed_batch.ensures (arms_of c.args.feed.arms.items)) c.as_slice-4.ensures seen (items_first (arms_of c.args.feed.arms.items) c.args.feed.batch c.args.feed.from c.first.result.now c.args.feed.items.items c.first.ensures c.requires.fresh) in
    feed_told k g.C.Engine.some_state c.args.desk.now clock dice (g.L.Link.tape c.args.link.now) (g.L.Link.tape c.say.new.link)
    (books_of c.args.shelf.now) (books_of c.open_feed.new.self) c.args.feed.token c' (arms_of c.args.met.now.opened.items) (arms_of c.args.feed.arms.items) c.args.feed.notes (map (shown_of (arms_of c.args.feed.arms.items)) c.args.feed.items.items) c.args.limits.now c.args.met.now.points.items c.args.feed.batch c.as_slice-6.result.now c.in-Ok-say.whole c.after.result
    r (feed_rest c.args.feed.token (arms_of c.args.feed.arms.items) c.args.feed.batch c.args.feed.notes c.args.feed.items.items (books_of c.args.shelf.now) (books_of c.open_feed.new.self) (books_of c.room_for_feed.new.self) c.open_feed.ensures c.room_for_feed.ensures.same)
    (sym c.if-is_long.false ∙ c.is_long.ensures k (batch_told k (books_of c.args.shelf.now) c.args.met.now.points.items c.args.feed.batch c.args.feed.notes (map (shown_of (arms_of c.args.feed.arms.items)) c.args.feed.items.items)) r.limits written)
    said c.in-Ok-say.ensures.said c.after.ensures

pub returns-in-Err-clause-keeps : goal.returns-in-Err-clause-keeps
returns-in-Err-clause-keeps g c = λ rest o w k. still_closed _ rest _ _ c.args.feed.token (c.close-in-Err.ensures ∙ ap (closed c.args.feed.token) c.room_for_feed.ensures.same) w k

pub returns-in-Err-clause-opened : goal.returns-in-Err-clause-opened
returns-in-Err-clause-opened g c = λ k c' clock dice e r.
    let seen = c.as_slice-3.ensures.value ∙ c.in-Ok.ensures ∙ ap (put_points []) c.as_slice-2.ensures.value in
    let written = batch_bytes c.args.shelf.now.names c.args.feed.batch c.as_slice-5.result.now c.as_slice-4.result.now c.args.feed.notes c.as_slice-3.result.now c.args.met.now.points.items (map (shown_of (arms_of c.args.feed.arms.items)) c.first.result.now) (map (shown_of (arms_of c.args.feed.arms.items)) c.args.feed.items.items) (c.as_slice-5.ensures.value ∙ c.in-Ok-feed_batch.ensures (arms_of c.args.feed.arms.items)) c.as_slice-4.ensures seen (items_first (arms_of c.args.feed.arms.items) c.args.feed.batch c.args.feed.from c.first.result.now c.args.feed.items.items c.first.ensures c.requires.fresh) in
    feed_unsaid k (g.L.Link.tape c.args.link.now) (g.L.Link.tape c.say.new.link) (g.L.Link.tape c.finish_internal.new.link) (working g.C.Engine.some_state c.args.desk.now (books_of c.args.shelf.now) clock dice) (λ z. working g.C.Engine.some_state c.finish_internal.new.desk z clock dice)
    (books_of c.args.shelf.now) (books_of c.close-in-Err.new.self) c.args.feed.token c' (arms_of c.args.met.now.opened.items) (arms_of c.as_slice-in-Err.result.now) (arms_of c.args.feed.arms.items) c.args.feed.notes (map (shown_of (arms_of c.args.feed.arms.items)) c.args.feed.items.items) c.args.limits.now c.args.met.now.points.items c.args.feed.batch c.finish_internal.result
    r (c.close-in-Err.ensures ∙ ap (closed c.args.feed.token) c.room_for_feed.ensures.same) (ap arms_of c.as_slice-in-Err.ensures.value) c.in-Err.ensures.unsaid
    (sym c.if-is_long.false ∙ c.is_long.ensures k (batch_told k (books_of c.args.shelf.now) c.args.met.now.points.items c.args.feed.batch c.args.feed.notes (map (shown_of (arms_of c.args.feed.arms.items)) c.args.feed.items.items)) r.limits written)
    (c.finish_internal.ensures.finished k (books_of c.args.shelf.now) clock dice)
