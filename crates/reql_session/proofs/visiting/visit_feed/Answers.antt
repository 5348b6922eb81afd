use Rattle.std.proofs.Common.{◌≡◌, List, [], ◌++◌, ℕ, false, true≢false, Some, is_some, length, sym, ap, subst, ◌∙◌}
use Rattle.reql_session_spec.specs.Books.{Books, Open, feed_of, has_token}
use Rattle.reql_session_spec.specs.Tasks.{Visiting, at}
use Rattle.reql_desk_moves.specs.Acting.{AreThere}
use Rattle.reql_session_api.specs.Meant.{arms_of}
use Rattle.reql_open_cursors.specs.Apart.{IsApart}
use Rattle.reql_open_cursors.specs.Kept.{books_of, feed_kept}
use Rattle.reql_open_cursors.specs.There.{AllThere}
use Rattle.reql_session.specs.Keeping.{Keeps}
use Rattle.reql_session.specs.Settling.{working, Settles}
use Rattle.reql_session.proofs.Tokens.{feed_token, found_is, found_there}
use Rattle.reql_session.proofs.Given.{visit_wanted}
use Rattle.reql_session.proofs.visiting.visit_feed.Goals as goal

pub returns-in_default-clause-keeps : goal.returns-in_default-clause-keeps
returns-in_default-clause-keeps g c = λ rest f found none off keeps. subst (Keeps (length c.args.hall.now.slots) rest) (sym c.room_to_wait.ensures.same) keeps

pub returns-in_default-clause-visited : goal.returns-in_default-clause-visited
returns-in_default-clause-visited g c = λ k clock dice f l found.
    visit_wanted k g.C.Engine.some_state _ _ c.args.desk.now (books_of c.args.shelf.now) (books_of c.room_to_wait.new.self) clock dice c.args.token f c.tell_internal.result
    (feed_token c.args.token (books_of c.args.shelf.now).feeds f found) c.room_to_wait.ensures.same (c.tell_internal.ensures k (working g.C.Engine.some_state c.args.desk.now (books_of c.room_to_wait.new.self) clock dice))

pub returns-in_default-feed-clause-keeps : goal.returns-in_default-feed-clause-keeps
returns-in_default-feed-clause-keeps g c = λ rest f found none off keeps. subst (Keeps (length c.args.hall.now.slots) rest) (sym c.room_to_wait.ensures.same) keeps

pub returns-in_default-feed-clause-visited : goal.returns-in_default-feed-clause-visited
returns-in_default-feed-clause-visited g c = λ k clock dice f l found.
    absurd (true≢false (sym (ap is_some (c.in_default-feed.ensures ∙ ap (λ (b : Books). feed_of c.args.token b.feeds) c.room_to_wait.ensures.same ∙ found))))

pub visit_arms-visited-requires-clause-there : goal.visit_arms-visited-requires-clause-there
visit_arms-visited-requires-clause-there g c = subst (AreThere (length c.args.hall.now.slots)) (sym c.as_slice-2.ensures.value)
    (found_there (length c.args.hall.now.slots) c.args.token (books_of c.room_to_wait.new.self).feeds c.in-Some.feed.now c.in-Some.ensures
    (subst (λ (b : Books). AllThere (length c.args.hall.now.slots) b.feeds) (sym c.room_to_wait.ensures.same) c.requires.there))

pub came-requires-clause-there : goal.came-requires-clause-there
came-requires-clause-there g c = subst (λ (b : Books). AllThere (length c.args.hall.now.slots) b.feeds) (sym c.room_to_wait.ensures.same) c.requires.there

pub came-requires-clause-apart : goal.came-requires-clause-apart
came-requires-clause-apart g c = subst IsApart (sym c.room_to_wait.ensures.same) c.requires.apart

pub returns-clause-keeps : goal.returns-clause-keeps
returns-clause-keeps g c =
    subst (λ (b : Books). (rest : List ℕ) (f : Open) → feed_of c.args.token b.feeds ≡ Some f → f.left ≡ [] → has_token c.args.token (b.waiting ++ rest) ≡ false → Keeps (length c.args.hall.now.slots) rest b → Keeps (length c.args.hall.now.slots) rest (books_of c.came.new.shelf))
    c.room_to_wait.ensures.same c.came.ensures.keeps

pub returns-clause-visited : goal.returns-clause-visited
returns-clause-visited g c = λ k clock dice f l found.
    let there : feed_of c.args.token (books_of c.room_to_wait.new.self).feeds ≡ Some f = ap (λ (b : Books). feed_of c.args.token b.feeds) c.room_to_wait.ensures.same ∙ found in
    let same : feed_kept c.in-Some.feed.now ≡ f = found_is c.args.token (books_of c.room_to_wait.new.self).feeds c.in-Some.feed.now f c.in-Some.ensures there in
    let n : f.batch ≡ c.in-Some.feed.now.batch = sym (ap (λ (x : Open). x.batch) same) in
    subst (λ z. Settles k z (g.L.Link.tape c.came.new.link) (working g.C.Engine.some_state c.args.desk.now (books_of c.args.shelf.now) clock dice) (working g.C.Engine.some_state c.came.new.desk (books_of c.came.new.shelf) clock dice) (at (books_of c.args.shelf.now) (Visiting f.token f.arms [])) c.came.result) c.await_changes.ensures
    (subst (λ z. Settles k (g.L.Link.tape c.await_changes.new.link) (g.L.Link.tape c.came.new.link) (working g.C.Engine.some_state c.args.desk.now z clock dice) (working g.C.Engine.some_state c.came.new.desk (books_of c.came.new.shelf) clock dice) (at z (Visiting f.token f.arms [])) c.came.result) c.room_to_wait.ensures.same
    (c.came.ensures.told k clock dice f c.args.desk.now l n there
    (c.visit_arms-visited.ensures.visited k (books_of c.room_to_wait.new.self) f (subst (λ t. feed_of t (books_of c.room_to_wait.new.self).feeds ≡ Some f) (sym (feed_token c.args.token (books_of c.room_to_wait.new.self).feeds f there)) there)
    (sym (ap (λ (x : Open). x.arms) same) ∙ ap arms_of (sym c.as_slice-2.ensures.value)) n)))
