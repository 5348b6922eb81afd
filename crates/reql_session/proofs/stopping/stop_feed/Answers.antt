use Rattle.std.proofs.Common.{[], None, Some, sym, ap, ◌∙◌}
use Rattle.reql_session_spec.specs.Books.{Books, feed_of}
use Rattle.reql_session_spec.specs.Tasks.{Telling, Stops, at, close}
use Rattle.reql_session_spec.specs.declared.end.End.TheVariants as ends
use Rattle.reql_open_cursors.specs.Kept.{books_of}
use Rattle.reql_session.specs.Settling.{working}
use Rattle.reql_session.proofs.Kept.{keeps_without, keeps_as}
use Rattle.reql_session.proofs.Settled.{settles_on, settles_want, leads_so, settles_broken}
use Rattle.reql_session.proofs.Stopped.{no_more, not_waiting, stops_idle, stops_waiting}
use Rattle.reql_session.proofs.stopping.stop_feed.Goals as goal

pub returns-then-not-waits-clause-stopped : goal.returns-then-not-waits-clause-stopped
returns-then-not-waits-clause-stopped g c = λ k clock dice f e.
    stops_idle k _ _ (working g.C.Engine.some_state c.args.desk.now (books_of c.args.shelf.now) clock dice) (working g.C.Engine.some_state c.close_feed.new.desk (books_of c.close_feed.new.shelf) clock dice) (books_of c.args.shelf.now) c.args.token f c.close_feed.result c.waits.result c.waits.ensures c.if-not-waits.true (c.close_feed.ensures.closed k clock dice f e)

pub returns-in_default-clause-stopped : goal.returns-in_default-clause-stopped
returns-in_default-clause-stopped g c = λ k clock dice f e.
    let b = books_of c.args.shelf.now in
    let w = working g.C.Engine.some_state c.args.desk.now b clock dice in
    stops_waiting k _ _ w w b c.args.token f c.tell_internal.result c.waits.result c.waits.ensures c.if-not-waits.false
    (settles_want k _ _ w w b (Telling c.args.token no_more (not_waiting c.args.token b) None (Some f.arms)) c.tell_internal.result (c.tell_internal.ensures k w))

pub close_feed-requires-in-Ok-true-clause-keeps : goal.close_feed-requires-in-Ok-true-clause-keeps
close_feed-requires-in-Ok-true-clause-keeps g c = keeps_as _ [] _ _ (sym c.stop_waiting.ensures) (keeps_without _ c.args.token (books_of c.args.shelf.now) c.requires.keeps)

pub returns-in-Ok-true-clause-stopped : goal.returns-in-Ok-true-clause-stopped
returns-in-Ok-true-clause-stopped g c = λ k clock dice f e.
    let b = books_of c.args.shelf.now in
    let some = g.C.Engine.some_state in
    let w = working some c.args.desk.now b clock dice in
    let v = working some c.close_feed-in-Ok-true.new.desk (books_of c.close_feed-in-Ok-true.new.shelf) clock dice in
    let kept = not_waiting c.args.token b in
    stops_waiting k (g.L.Link.tape c.args.link.now) (g.L.Link.tape c.close_feed-in-Ok-true.new.link) w v b c.args.token f c.close_feed-in-Ok-true.result c.waits.result c.waits.ensures c.if-not-waits.false
    (settles_on k (g.L.Link.tape c.args.link.now) (g.L.Link.tape c.say.new.link) (g.L.Link.tape c.close_feed-in-Ok-true.new.link) w (working some c.args.desk.now kept clock dice) v (at b (Telling c.args.token no_more kept None (Some f.arms))) (close kept c.args.token f.arms Stops (Some no_more)) c.close_feed-in-Ok-true.result
    (leads_so k _ _ w b kept c.args.token no_more None (Some f.arms) c.as_slice.result.now c.in-Ok-true.field-0 (c.as_slice.ensures.value ∙ c.in-Ok.ensures) c.in-Ok-true.field-0-test c.in-Ok-true.ensures.said)
    (rw c.stop_waiting.ensures at (c.close_feed-in-Ok-true.ensures.closed k clock dice f (ap (λ (z : Books). feed_of c.args.token z.feeds) c.stop_waiting.ensures ∙ e))))

pub returns-in-Ok-false-clause-keeps : goal.returns-in-Ok-false-clause-keeps
returns-in-Ok-false-clause-keeps g c = keeps_as _ [] _ _ (sym c.stop_waiting-in-Ok-false.ensures) (keeps_without _ c.args.token (books_of c.args.shelf.now) c.requires.keeps)

pub returns-in-Ok-false-clause-stopped : goal.returns-in-Ok-false-clause-stopped
returns-in-Ok-false-clause-stopped g c = λ k clock dice f e.
    let b = books_of c.args.shelf.now in
    let some = g.C.Engine.some_state in
    let v = working some c.args.desk.now (books_of c.stop_waiting-in-Ok-false.new.self) clock dice in
    let kept = not_waiting c.args.token b in
    stops_waiting k (g.L.Link.tape c.args.link.now) (g.L.Link.tape c.say.new.link) v v b c.args.token f (Some ends.WriteFault) c.waits.result c.waits.ensures c.if-not-waits.false
    (settles_broken k _ _ v b kept c.args.token no_more None (Some f.arms) c.as_slice.result.now c.in-Ok-false.field-0 c.stop_waiting-in-Ok-false.ensures (c.as_slice.ensures.value ∙ c.in-Ok.ensures) c.in-Ok-false.field-0-test c.in-Ok-false.ensures.said)

pub returns-clause-stopped : goal.returns-clause-stopped
returns-clause-stopped g c = λ k clock dice f e.
    let b = books_of c.args.shelf.now in
    let w = working g.C.Engine.some_state c.args.desk.now b clock dice in
    stops_waiting k _ _ w w b c.args.token f c.tell_internal-in-Err.result c.waits.result c.waits.ensures c.if-not-waits.false
    (settles_want k _ _ w w b (Telling c.args.token no_more (not_waiting c.args.token b) None (Some f.arms)) c.tell_internal-in-Err.result (rw c.in-Err.ensures.unsaid at (c.tell_internal-in-Err.ensures k w)))
