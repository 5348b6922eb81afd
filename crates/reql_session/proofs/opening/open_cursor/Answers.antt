use Rattle.std.proofs.Common.{[], map, Some, refl, sym, ap, ◌∙◌}
use Rattle.reql_datum.specs.View.{plain}
use Rattle.reql_session_spec.specs.Requests.{stamped}
use Rattle.reql_session_spec.specs.Books.{closed, with_cursor}
use Rattle.reql_session_spec.specs.Tasks.{cut_to}
use Rattle.reql_session_api.specs.Meant.{arms_of}
use Rattle.reql_desk_moves.specs.Steps.{after_closing, put_points}
use Rattle.reql_open_cursors.specs.Kept.{books_of}
use Rattle.reql_session.specs.Settling.{working}
use Rattle.reql_session.proofs.Keeping.{still_cursor, still_closed, still_after}
use Rattle.reql_session.proofs.Opened.{course_wanted, cursor_left, part_bytes, first_told, stream_cut, stream_told, stream_unsaid}
use Rattle.reql_session.proofs.opening.open_cursor.Goals as goal

pub returns-in_default-clause-keeps : goal.returns-in_default-clause-keeps
returns-in_default-clause-keeps g c = λ rest o w k. still_after _ rest _ _ c.args.token _ c.give_up.ensures.books w k

pub returns-in_default-clause-opened : goal.returns-in_default-clause-opened
returns-in_default-clause-opened g c = λ k c' clock dice e r.
    course_wanted k (g.L.Link.tape c.args.link.now) (g.L.Link.tape c.give_up.new.link) (working g.C.Engine.some_state c.args.desk.now (books_of c.args.shelf.now) clock dice) (working g.C.Engine.some_state c.give_up.new.desk (books_of c.give_up.new.shelf) clock dice)
    (books_of c.args.shelf.now) (books_of c.args.shelf.now) c.args.token c' c.args.noreply (arms_of c.as_slice-arms.result.now) (arms_of c.args.met.now.opened.items) c.give_up.result e refl (ap arms_of c.as_slice-arms.ensures.value)
    (c.give_up.ensures.settled k clock dice)

pub returns-in_default-part-clause-keeps : goal.returns-in_default-part-clause-keeps
returns-in_default-part-clause-keeps g c = λ rest o w k. still_after _ rest _ _ c.args.token _ c.give_up-in_default-part.ensures.books w k

pub returns-in_default-part-clause-opened : goal.returns-in_default-part-clause-opened
returns-in_default-part-clause-opened g c = λ k c' clock dice e r.
    course_wanted k (g.L.Link.tape c.args.link.now) (g.L.Link.tape c.give_up-in_default-part.new.link) (working g.C.Engine.some_state c.args.desk.now (books_of c.args.shelf.now) clock dice) (working g.C.Engine.some_state c.give_up-in_default-part.new.desk (books_of c.give_up-in_default-part.new.shelf) clock dice)
    (books_of c.args.shelf.now) (books_of c.args.shelf.now) c.args.token c' c.args.noreply (arms_of c.as_slice-arms.result.now) (arms_of c.args.met.now.opened.items) c.give_up-in_default-part.result e refl (ap arms_of c.as_slice-arms.ensures.value)
    (c.give_up-in_default-part.ensures.settled k clock dice)

pub returns-in_default-room_for_cursor-clause-keeps :
    goal.returns-in_default-room_for_cursor-clause-keeps
returns-in_default-room_for_cursor-clause-keeps g c = λ rest o w k.
    still_after _ rest _ _ c.args.token (arms_of c.as_slice-arms.result.now) (c.give_up-in_default-room_for_cursor.ensures.books ∙ ap (λ b. after_closing b c.args.token (arms_of c.as_slice-arms.result.now)) c.room_for_cursor.ensures.same) w k

pub returns-in_default-room_for_cursor-clause-opened :
    goal.returns-in_default-room_for_cursor-clause-opened
returns-in_default-room_for_cursor-clause-opened g c = λ k c' clock dice e r.
    course_wanted k (g.L.Link.tape c.args.link.now) (g.L.Link.tape c.give_up-in_default-room_for_cursor.new.link) (working g.C.Engine.some_state c.args.desk.now (books_of c.args.shelf.now) clock dice) (working g.C.Engine.some_state c.give_up-in_default-room_for_cursor.new.desk (books_of c.give_up-in_default-room_for_cursor.new.shelf) clock dice)
    (books_of c.room_for_cursor.new.self) (books_of c.args.shelf.now) c.args.token c' c.args.noreply (arms_of c.as_slice-arms.result.now) (arms_of c.args.met.now.opened.items) c.give_up-in_default-room_for_cursor.result e c.room_for_cursor.ensures.same (ap arms_of c.as_slice-arms.ensures.value)
    (c.give_up-in_default-room_for_cursor.ensures.settled k clock dice)

pub returns-then-is_long-clause-keeps : goal.returns-then-is_long-clause-keeps
returns-then-is_long-clause-keeps g c = λ rest o w k. still_closed _ rest _ _ c.args.token (c.close.ensures ∙ ap (closed c.args.token) c.room_for_cursor.ensures.same) w k

pub returns-then-is_long-clause-opened : goal.returns-then-is_long-clause-opened
returns-then-is_long-clause-opened g c = λ k c' clock dice e r.
    let seen = c.as_slice-2.ensures.value ∙ c.in-Ok.ensures ∙ ap (put_points []) c.as_slice.ensures.value in
    let is = part_bytes c.args.shelf.now.names c.args.batch c.as_slice-3.result.now c.as_slice-2.result.now c.args.met.now.points.items (map plain c.first.result.now) c.args.documents (c.as_slice-3.ensures.value ∙ c.in-Ok-part.ensures) seen c.first.ensures in
    stream_cut k (g.L.Link.tape c.args.link.now) (g.L.Link.tape c.finish.new.link) (working g.C.Engine.some_state c.args.desk.now (books_of c.args.shelf.now) clock dice) (λ z. working g.C.Engine.some_state c.finish.new.desk z clock dice)
    (books_of c.args.shelf.now) (books_of c.close.new.self) c.args.token c' (arms_of c.as_slice-arms.result.now) (arms_of c.args.met.now.opened.items) c.args.documents c.args.limits.now c.args.met.now.points.items c.args.batch c.finish.result
    r c.requires.more (c.close.ensures ∙ ap (closed c.args.token) c.room_for_cursor.ensures.same) (ap arms_of c.as_slice-arms.ensures.value)
    (sym c.if-is_long.true ∙ c.is_long.ensures k (first_told k (books_of c.args.shelf.now) c.args.met.now.points.items c.args.batch c.args.documents) r.limits is)
    (c.finish.ensures.finished k (books_of c.args.shelf.now) clock dice (cut_to k (first_told k (books_of c.args.shelf.now) c.args.met.now.points.items c.args.batch c.args.documents))
    (c.cut_to-cut.ensures k (first_told k (books_of c.args.shelf.now) c.args.met.now.points.items c.args.batch c.args.documents) r.limits (ap (λ ps. Some (stamped c.args.shelf.now.names ps)) (sym seen))))

pub returns-in-Ok-say-clause-keeps : goal.returns-in-Ok-say-clause-keeps
returns-in-Ok-say-clause-keeps g c = λ rest o w k.
    still_cursor _ rest _ _ (cursor_left c.args.token c.args.batch c.args.documents) (c.open_cursor.ensures ∙ ap (with_cursor (cursor_left c.args.token c.args.batch c.args.documents)) c.room_for_cursor.ensures.same) o k

pub returns-in-Ok-say-clause-opened : goal.returns-in-Ok-say-clause-opened
returns-in-Ok-say-clause-opened g c = λ k c' clock dice e r.
    let seen = c.as_slice-2.ensures.value ∙ c.in-Ok.ensures ∙ ap (put_points []) c.as_slice.ensures.value in
    let written = part_bytes c.args.shelf.now.names c.args.batch c.as_slice-3.result.now c.as_slice-2.result.now c.args.met.now.points.items (map plain c.first.result.now) c.args.documents (c.as_slice-3.ensures.value ∙ c.in-Ok-part.ensures) seen c.first.ensures in
    let said = part_bytes c.args.shelf.now.names c.args.batch c.as_slice-4.result.now c.as_slice-2.result.now c.args.met.now.points.items (map plain c.first.result.now) c.args.documents (c.as_slice-4.ensures.value ∙ c.in-Ok-part.ensures) seen c.first.ensures in
    stream_told k g.C.Engine.some_state c.args.desk.now clock dice (g.L.Link.tape c.args.link.now) (g.L.Link.tape c.say.new.link)
    (books_of c.args.shelf.now) (books_of c.open_cursor.new.self) c.args.token c' (arms_of c.args.met.now.opened.items) c.args.documents c.args.limits.now c.args.met.now.points.items c.args.batch c.as_slice-4.result.now c.in-Ok-say.whole c.after.result
    r c.requires.more (c.open_cursor.ensures ∙ ap (with_cursor (cursor_left c.args.token c.args.batch c.args.documents)) c.room_for_cursor.ensures.same)
    (sym c.if-is_long.false ∙ c.is_long.ensures k (first_told k (books_of c.args.shelf.now) c.args.met.now.points.items c.args.batch c.args.documents) r.limits written)
    said c.in-Ok-say.ensures.said c.after.ensures

pub returns-in-Err-clause-opened : goal.returns-in-Err-clause-opened
returns-in-Err-clause-opened g c = λ k c' clock dice e r.
    let seen = c.as_slice-2.ensures.value ∙ c.in-Ok.ensures ∙ ap (put_points []) c.as_slice.ensures.value in
    let written = part_bytes c.args.shelf.now.names c.args.batch c.as_slice-3.result.now c.as_slice-2.result.now c.args.met.now.points.items (map plain c.first.result.now) c.args.documents (c.as_slice-3.ensures.value ∙ c.in-Ok-part.ensures) seen c.first.ensures in
    stream_unsaid k g.C.Engine.some_state c.args.desk.now clock dice (g.L.Link.tape c.args.link.now) (g.L.Link.tape c.say.new.link) (g.L.Link.tape c.tell_internal.new.link)
    (books_of c.args.shelf.now) (books_of c.room_for_cursor.new.self) c.args.token c' (arms_of c.args.met.now.opened.items) c.args.documents c.args.limits.now c.args.met.now.points.items c.args.batch c.tell_internal.result
    r c.requires.more c.room_for_cursor.ensures.same c.in-Err.ensures.unsaid
    (sym c.if-is_long.false ∙ c.is_long.ensures k (first_told k (books_of c.args.shelf.now) c.args.met.now.points.items c.args.batch c.args.documents) r.limits written)
    (λ w. c.tell_internal.ensures k w)
