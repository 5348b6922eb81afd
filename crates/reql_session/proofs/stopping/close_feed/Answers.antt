use Rattle.std.proofs.Common.{[], Some, false, sym, ◌∙◌, subst, length}
use Rattle.reql_session_spec.specs.Requests.{Internal}
use Rattle.reql_session_spec.specs.Books.{Open}
use Rattle.reql_session_spec.specs.Tasks.{Stops, close, only_tell}
use Rattle.reql_session_api.specs.Meant.{arms_of}
use Rattle.reql_desk_moves.specs.Acting.{AreThere}
use Rattle.reql_desk_moves.specs.Steps.{Steps, StopsArms, after_closing}
use Rattle.reql_open_cursors.specs.Kept.{books_of, feed_kept}
use Rattle.reql_open_cursors.proofs.There.{there_found, there_coded}
use Rattle.reql_session.specs.Settling.{working, Settles}
use Rattle.reql_session.proofs.Kept.{keeps_after, keeps_as, unsome, closed_where}
use Rattle.reql_session.proofs.Settled.{settles_closed}
use Rattle.reql_session.proofs.Stopped.{no_more}
use Rattle.reql_session.proofs.stopping.close_feed.Goals as goal

pub stop_arms-requires-clause-there : goal.stop_arms-requires-clause-there
stop_arms-requires-clause-there g c =
    let b = books_of c.args.shelf.now in
    let n = length c.args.hall.now.slots in
    subst (AreThere n) (sym c.as_slice-arms.ensures.value) (there_coded n c.in-Some.feed.now.arms.items (there_found n c.args.token b.feeds (feed_kept c.in-Some.feed.now) (sym c.in-Some.ensures) c.requires.keeps.there))

pub returns-then-not-stop_arms-clause-closed : goal.returns-then-not-stop_arms-clause-closed
returns-then-not-stop_arms-clause-closed g c = λ k clock dice f e.
    let b = books_of c.args.shelf.now in
    let some = g.C.Engine.some_state in
    subst (λ (z : Open). Settles k (g.L.Link.tape c.args.link.now) (g.L.Link.tape c.tell_internal-then-not-stop_arms.new.link) (working some c.args.desk.now b clock dice) (working some c.stop_arms.new.desk b clock dice) (close b c.args.token z.arms Stops (Some no_more)) c.tell_internal-then-not-stop_arms.result) (unsome (feed_kept c.in-Some.feed.now) f (c.in-Some.ensures ∙ e))
    (settles_closed k some _ _ c.args.desk.now c.stop_arms.new.desk b b clock dice _ (λ z. only_tell z c.args.token Internal) c.tell_internal-then-not-stop_arms.result
    (subst (λ z. StopsArms k some c.args.desk.now c.stop_arms.new.desk b c.args.token (arms_of z) (Some no_more) false) c.as_slice-arms.ensures.value (c.if-not-stop_arms.ensures.stopped k b c.args.token (Some no_more)))
    (λ w. c.tell_internal-then-not-stop_arms.ensures k w))

pub returns-clause-keeps : goal.returns-clause-keeps
returns-clause-keeps g c =
    let b = books_of c.args.shelf.now in
    let n = length c.args.hall.now.slots in
    keeps_as n [] (after_closing b c.args.token (arms_of c.as_slice-arms.result.now)) (books_of c.close_where.new.shelf) (closed_where c.args.token b (books_of c.close_where.new.shelf) c.as_slice-arms.result.now c.close_where.ensures) (keeps_after n c.args.token b (arms_of c.as_slice-arms.result.now) c.requires.keeps)

pub returns-clause-closed : goal.returns-clause-closed
returns-clause-closed g c = λ k clock dice f e.
    let b = books_of c.args.shelf.now in
    let kept = books_of c.close_where.new.shelf in
    let some = g.C.Engine.some_state in
    subst (λ (z : Open). Settles k (g.L.Link.tape c.args.link.now) (g.L.Link.tape c.tell.new.link) (working some c.args.desk.now b clock dice) (working some c.stop_arms.new.desk kept clock dice) (close b c.args.token z.arms Stops (Some no_more)) c.tell.result) (unsome (feed_kept c.in-Some.feed.now) f (c.in-Some.ensures ∙ e))
    (settles_closed k some _ _ c.args.desk.now c.stop_arms.new.desk b kept clock dice (close b c.args.token (arms_of c.in-Some.feed.now.arms.items) Stops (Some no_more)) (λ z. only_tell z c.args.token no_more) c.tell.result
    (subst (λ z. Steps k some c.args.desk.now c.stop_arms.new.desk (close b c.args.token (arms_of z) Stops (Some no_more)) (only_tell kept c.args.token no_more)) c.as_slice-arms.ensures.value
    (subst (λ z. Steps k some c.args.desk.now c.stop_arms.new.desk (close b c.args.token (arms_of c.as_slice-arms.result.now) Stops (Some no_more)) (only_tell z c.args.token no_more)) (closed_where c.args.token b kept c.as_slice-arms.result.now c.close_where.ensures) (c.if-not-stop_arms.ensures.stopped k b c.args.token (Some no_more))))
    (λ w. c.tell.ensures k w no_more c.nothing_more.ensures))
