use Rattle.std.proofs.Common.{◌≤◌, ℕ, length, map, Some, None, refl, sym, ap, subst, ◌∙◌}
use Rattle.reql_datum.specs.View.{plain}
use Rattle.reql_session_spec.specs.Requests as story
use Rattle.reql_session_spec.specs.Requests.{Atom, Last, Failed}
use Rattle.reql_session_api.specs.Meant.{answered_of, arms_of, shown_of}
use Rattle.reql_open_cursors.specs.Kept.{books_of}
use Rattle.reql_session.specs.Settling.{working}
use Rattle.reql_session.specs.Ending.{seen_at}
use Rattle.reql_session.proofs.Keeping.{still_after}
use Rattle.reql_session.proofs.Ended.{with_arms, reaches_as, ends_unsent, ends_wanting, one_comes, fault_comes, last_comes}
use Rattle.reql_session.proofs.ending.end_course.Goals as goal

pub returns-in-Unsent-clause-keeps : goal.returns-in-Unsent-clause-keeps
returns-in-Unsent-clause-keeps g c = λ rest o w k. still_after _ rest _ _ c.args.token (arms_of c.as_slice-arms.result.now) c.settle_silently.ensures.books w k

pub returns-in-Unsent-clause-ended : goal.returns-in-Unsent-clause-ended
returns-in-Unsent-clause-ended g c = λ k c' clock dice e r.
    ends_unsent k (g.L.Link.tape c.args.link.now) (g.L.Link.tape c.args.link.now) (working g.C.Engine.some_state c.args.desk.now (books_of c.args.shelf.now) clock dice) (working g.C.Engine.some_state c.settle_silently.new.desk (books_of c.settle_silently.new.shelf) clock dice) (books_of c.args.shelf.now) c.args.token c' (arms_of c.as_slice-arms.result.now) (arms_of c.args.met.now.opened.items) c.args.limits.now c.args.met.now.points.items c.args.batch None
    (reaches_as k c' (answered_of c.args.to) story.Unsent c.args.limits.now c.args.met.now.points.items c.args.met.now.points.items c.args.batch (ap answered_of c.in-Unsent.is) refl r) (ap arms_of c.as_slice-arms.ensures.value) (c.settle_silently.ensures.settled k (g.L.Link.tape c.args.link.now) clock dice)

pub returns-in-Wanting-clause-keeps : goal.returns-in-Wanting-clause-keeps
returns-in-Wanting-clause-keeps g c = λ rest o w k. still_after _ rest _ _ c.args.token (arms_of c.as_slice-arms.result.now) c.settle_internal.ensures.books w k

pub returns-in-Wanting-clause-ended : goal.returns-in-Wanting-clause-ended
returns-in-Wanting-clause-ended g c = λ k c' clock dice e r.
    ends_wanting k (g.L.Link.tape c.args.link.now) (g.L.Link.tape c.settle_internal.new.link) (working g.C.Engine.some_state c.args.desk.now (books_of c.args.shelf.now) clock dice) (working g.C.Engine.some_state c.settle_internal.new.desk (books_of c.settle_internal.new.shelf) clock dice) (books_of c.args.shelf.now) c.args.token c' (arms_of c.as_slice-arms.result.now) (arms_of c.args.met.now.opened.items) c.args.limits.now c.args.met.now.points.items c.args.batch c.settle_internal.result
    (reaches_as k c' (answered_of c.args.to) story.Wanting c.args.limits.now c.args.met.now.points.items c.args.met.now.points.items c.args.batch (ap answered_of c.in-Wanting.is) refl r) (ap arms_of c.as_slice-arms.ensures.value) (c.settle_internal.ensures.settled k clock dice)

pub returns-in-One-clause-keeps : goal.returns-in-One-clause-keeps
returns-in-One-clause-keeps g c = λ rest o w k. still_after _ rest _ _ c.args.token (arms_of c.as_slice-arms.result.now) c.end_with.ensures.books w k

pub returns-in-One-clause-ended : goal.returns-in-One-clause-ended
returns-in-One-clause-ended g c = λ k c' clock dice e r.
    let now = reaches_as k c' (answered_of c.args.to) (story.One (plain c.in-One.document)) c.args.limits.now c.args.met.now.points.items c.as_slice-points.result.now c.args.batch (ap answered_of c.in-One.is) c.as_slice-points.ensures.value r in
    with_arms k (g.L.Link.tape c.args.link.now) (g.L.Link.tape c.end_with.new.link) (working g.C.Engine.some_state c.args.desk.now (books_of c.args.shelf.now) clock dice) (working g.C.Engine.some_state c.end_with.new.desk (books_of c.end_with.new.shelf) clock dice) (books_of c.args.shelf.now) c.args.token c' (arms_of c.as_slice-arms.result.now) (arms_of c.args.met.now.opened.items) c.end_with.result (ap arms_of c.as_slice-arms.ensures.value)
    (c.end_with.ensures.ended k c' clock dice (story.One (plain c.in-One.document)) (Atom (plain c.in-One.document) (seen_at c.args.shelf.now.names c.as_slice-points.result.now)) now.next (one_comes k c' (plain c.in-One.document) c.args.limits.now c.as_slice-points.result.now c.args.batch now (books_of c.args.shelf.now) c.args.token (arms_of c.as_slice-arms.result.now)) (c.write_one-written.ensures k r.limits))

pub returns-in-Fault-clause-keeps : goal.returns-in-Fault-clause-keeps
returns-in-Fault-clause-keeps g c = λ rest o w k. still_after _ rest _ _ c.args.token (arms_of c.as_slice-arms.result.now) c.end_with-in-Fault.ensures.books w k

pub returns-in-Fault-clause-ended : goal.returns-in-Fault-clause-ended
returns-in-Fault-clause-ended g c = λ k c' clock dice e r.
    let now = reaches_as k c' (answered_of c.args.to) (story.Fault c.in-Fault.error c.in-Fault.why) c.args.limits.now c.args.met.now.points.items c.as_slice-points.result.now c.args.batch (ap answered_of c.in-Fault.is) c.as_slice-points.ensures.value r in
    with_arms k (g.L.Link.tape c.args.link.now) (g.L.Link.tape c.end_with-in-Fault.new.link) (working g.C.Engine.some_state c.args.desk.now (books_of c.args.shelf.now) clock dice) (working g.C.Engine.some_state c.end_with-in-Fault.new.desk (books_of c.end_with-in-Fault.new.shelf) clock dice) (books_of c.args.shelf.now) c.args.token c' (arms_of c.as_slice-arms.result.now) (arms_of c.args.met.now.opened.items) c.end_with-in-Fault.result (ap arms_of c.as_slice-arms.ensures.value)
    (c.end_with-in-Fault.ensures.ended k c' clock dice (story.Fault c.in-Fault.error c.in-Fault.why) (Failed c.in-Fault.error c.in-Fault.why (Some (seen_at c.args.shelf.now.names c.as_slice-points.result.now))) now.next (fault_comes k c' c.in-Fault.error c.in-Fault.why c.args.limits.now c.as_slice-points.result.now c.args.batch now (books_of c.args.shelf.now) c.args.token (arms_of c.as_slice-arms.result.now)) (c.write_failed-written.ensures k r.limits))

pub returns-else-len-batch-clause-keeps : goal.returns-else-len-batch-clause-keeps
returns-else-len-batch-clause-keeps g c = λ rest o w k. still_after _ rest _ _ c.args.token (arms_of c.as_slice-arms.result.now) c.end_with-in-Stream.ensures.books w k

pub returns-else-len-batch-clause-ended : goal.returns-else-len-batch-clause-ended
returns-else-len-batch-clause-ended g c = λ k c' clock dice e r.
    let now = reaches_as k c' (answered_of c.args.to) (story.Stream (map plain c.as_slice.result.now)) c.args.limits.now c.args.met.now.points.items c.as_slice-points.result.now c.args.batch (ap answered_of c.in-Stream.is ∙ ap story.Stream (sym c.as_slice.ensures)) c.as_slice-points.ensures.value r in
    let all = subst (λ (n : ℕ). n ≤ c.args.batch) (c.len.ensures ∙ ap length (sym c.as_slice.ensures)) c.if-len-batch.false in
    with_arms k (g.L.Link.tape c.args.link.now) (g.L.Link.tape c.end_with-in-Stream.new.link) (working g.C.Engine.some_state c.args.desk.now (books_of c.args.shelf.now) clock dice) (working g.C.Engine.some_state c.end_with-in-Stream.new.desk (books_of c.end_with-in-Stream.new.shelf) clock dice) (books_of c.args.shelf.now) c.args.token c' (arms_of c.as_slice-arms.result.now) (arms_of c.args.met.now.opened.items) c.end_with-in-Stream.result (ap arms_of c.as_slice-arms.ensures.value)
    (c.end_with-in-Stream.ensures.ended k c' clock dice (story.Stream (map plain c.as_slice.result.now)) (Last (map plain c.as_slice.result.now) (Some (seen_at c.args.shelf.now.names c.as_slice-points.result.now))) now.next (last_comes k c' (map plain c.as_slice.result.now) c.args.limits.now c.as_slice-points.result.now c.args.batch now all (books_of c.args.shelf.now) c.args.token (arms_of c.as_slice-arms.result.now)) (c.write_last-written.ensures k r.limits))

pub returns-then-len-batch-clause-ended : goal.returns-then-len-batch-clause-ended
returns-then-len-batch-clause-ended g c = λ k c' clock dice e r.
    c.open_cursor.ensures.opened k c' clock dice e (reaches_as k c' (answered_of c.args.to) (story.Stream c.in-Stream.documents) c.args.limits.now c.args.met.now.points.items c.args.met.now.points.items c.args.batch (ap answered_of c.in-Stream.is) refl r)

pub returns-in-Feed-clause-ended : goal.returns-in-Feed-clause-ended
returns-in-Feed-clause-ended g c = λ k c' clock dice e r.
    c.open_feed.ensures.opened k c' clock dice e (reaches_as k c' (answered_of c.args.to) (story.Feed (arms_of c.in-Feed.arms.items) c.in-Feed.notes (map (shown_of (arms_of c.in-Feed.arms.items)) c.in-Feed.items.items)) c.args.limits.now c.args.met.now.points.items c.args.met.now.points.items c.args.batch (ap answered_of c.in-Feed.is) refl r)
