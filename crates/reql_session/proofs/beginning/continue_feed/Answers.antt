use Rattle.std.proofs.Common.{inl, [], true, false, refl, sym, ap, subst, ◌∙◌, append-nil}
use Rattle.reql_session_spec.specs.Requests.{Client}
use Rattle.reql_session_spec.specs.Bodies as texts
use Rattle.reql_session_spec.specs.Books.{has_token}
use Rattle.reql_session_spec.specs.Tasks.{tell_now, continue_feed, continue_left}
use Rattle.reql_open_cursors.specs.Kept.{books_of, feed_kept}
use Rattle.reql_session.specs.Settling.{working, Settles}
use Rattle.reql_session.proofs.Begun.{has_left, has_none, either_as, continues_with}
use Rattle.reql_session.proofs.beginning.continue_feed.Goals as goal

pub returns-in_default-clause-continued : goal.returns-in_default-clause-continued
returns-in_default-clause-continued g c = λ k clock dice l.
    let b = books_of c.args.shelf.now in
    let w = working g.C.Engine.some_state c.args.desk.now b clock dice in
    inl (subst (λ z. Settles k (g.L.Link.tape c.args.link.now) (g.L.Link.tape c.tell_now.new.link) w w (continue_feed k b c.args.token z) c.tell_now.result) c.in_default.ensures
    (c.tell_now.ensures k w (Client (texts.not_open c.args.token)) l refl c.not_open-written.ensures))

pub returns-then-waits-clause-continued : goal.returns-then-waits-clause-continued
returns-then-waits-clause-continued g c = λ k clock dice l.
    let b = books_of c.args.shelf.now in
    let w = working g.C.Engine.some_state c.args.desk.now b clock dice in
    either_as k _ _ w w c.args.token (tell_now k b c.args.token (Client (texts.at_wait c.args.token))) _ c.tell_now-then-waits.result (sym (continues_with k b c.args.token _ (feed_kept c.in-Some.feed.now) true (sym c.in-Some.ensures) (sym c.if-waits.true ∙ c.waits.ensures)))
    (inl (c.tell_now-then-waits.ensures k w (Client (texts.at_wait c.args.token)) l refl c.at_wait-written.ensures))

pub returns-then-has_left-clause-keeps : goal.returns-then-has_left-clause-keeps
returns-then-has_left-clause-keeps g c = c.continue_left.ensures.keeps (sym c.waits.ensures ∙ c.if-waits.false)

pub returns-then-has_left-clause-continued : goal.returns-then-has_left-clause-continued
returns-then-has_left-clause-continued g c = λ k clock dice l.
    let b = books_of c.args.shelf.now in
    let some = g.C.Engine.some_state in
    let left = has_left c.in-Some.feed.now c.left.result.now c.left.ensures c.if-has_left.true in
    either_as k (g.L.Link.tape c.args.link.now) (g.L.Link.tape c.continue_left.new.link) (working some c.args.desk.now b clock dice) (working some c.continue_left.new.desk (books_of c.continue_left.new.shelf) clock dice) c.args.token (continue_left k b (feed_kept c.in-Some.feed.now) (feed_kept c.in-Some.feed.now).left) _ c.continue_left.result
    (sym (continues_with k b c.args.token _ (feed_kept c.in-Some.feed.now) false (sym c.in-Some.ensures) (sym c.if-waits.false ∙ c.waits.ensures)))
    (c.continue_left.ensures.continued k clock dice (feed_kept c.in-Some.feed.now) left.0 left.1 l (sym c.in-Some.ensures) left.2)

pub visit_feed-requires-clause-there : goal.visit_feed-requires-clause-there
visit_feed-requires-clause-there g c = c.requires.keeps.there

pub visit_feed-requires-clause-apart : goal.visit_feed-requires-clause-apart
visit_feed-requires-clause-apart g c = c.requires.keeps.apart

pub returns-clause-keeps : goal.returns-clause-keeps
returns-clause-keeps g c =
    let none = has_none c.in-Some.feed.now c.left.result.now c.left.ensures c.if-has_left.false in
    c.visit_feed.ensures.keeps [] (feed_kept c.in-Some.feed.now) (sym c.in-Some.ensures) none (ap (has_token c.args.token) (append-nil (books_of c.args.shelf.now).waiting) ∙ sym c.waits.ensures ∙ c.if-waits.false) c.requires.keeps

pub returns-clause-continued : goal.returns-clause-continued
returns-clause-continued g c = λ k clock dice l.
    let b = books_of c.args.shelf.now in
    let some = g.C.Engine.some_state in
    let none = has_none c.in-Some.feed.now c.left.result.now c.left.ensures c.if-has_left.false in
    either_as k (g.L.Link.tape c.args.link.now) (g.L.Link.tape c.visit_feed.new.link) (working some c.args.desk.now b clock dice) (working some c.visit_feed.new.desk (books_of c.visit_feed.new.shelf) clock dice) c.args.token _ _ c.visit_feed.result
    (sym (continues_with k b c.args.token _ (feed_kept c.in-Some.feed.now) false (sym c.in-Some.ensures) (sym c.if-waits.false ∙ c.waits.ensures) ∙ ap (continue_left k b (feed_kept c.in-Some.feed.now)) none))
    (inl (c.visit_feed.ensures.visited k clock dice (feed_kept c.in-Some.feed.now) l (sym c.in-Some.ensures)))
