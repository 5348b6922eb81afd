use Rattle.std.proofs.Common.{◌+◌, ◌∷◌, length, drop, sym, subst, ◌∙◌}
use Rattle.reql_open_cursors.specs.Kept.{books_of}
use Rattle.reql_session.specs.Keeping.{Keeps}
use Rattle.reql_session.specs.Settling.{working}
use Rattle.reql_session.proofs.Visited.{keeps_dropping, is_apart, finds_quiet, keeps_front, next_token, within, visited_none, visited_next, visited_end, visited_all}
use Rattle.reql_session.proofs.visits.visit_all.Goals as goal

pub loop-token-init : goal.loop-token-init
loop-token-init g c = (c.requires.of_this_hall, c.requires.keeps, λ k clock dice l. visited_none k _ _ _)

pub visit_feed-end-requires-clause-there : goal.visit_feed-end-requires-clause-there
visit_feed-end-requires-clause-there g c = c.loop-token.invariant.1.there

pub visit_feed-end-requires-clause-apart : goal.visit_feed-end-requires-clause-apart
visit_feed-end-requires-clause-apart g c = c.loop-token.invariant.1.apart

pub loop-token-preserved : goal.loop-token-preserved
loop-token-preserved g c =
    let n = length c.args.hall.now.slots in
    let rest = drop (c.loop-token.place + 1) c.args.tokens.now in
    let b = books_of c.loop-token.shelf in
    let next = next_token c.args.tokens.now c.loop-token.place c.in-Some.token.now (within c.loop-token.place (length c.args.tokens.now) c.in-Some.ensures.lookup.0) c.in-Some.ensures.lookup.1 in
    let kept : Keeps n (c.in-Some.token.now ∷ rest) b = subst (λ z. Keeps n z b) next c.loop-token.invariant.1 in
    let f = finds_quiet n c.in-Some.token.now rest b kept in (
      c.visit_feed-end.ensures.of_this_hall,
      c.visit_feed-end.ensures.keeps rest f.0 f.1 f.2 (is_apart n c.in-Some.token.now rest b kept) (keeps_dropping n c.in-Some.token.now rest b kept),
      λ k clock dice l. visited_next k _ _ _ _ (working g.C.Engine.some_state c.loop-token.desk b clock dice) (working g.C.Engine.some_state c.visit_feed-end.new.desk (books_of c.visit_feed-end.new.shelf) clock dice) c.args.tokens.now c.in-Some.token.now (drop c.loop-token.place c.args.tokens.now) rest f.0 c.visit_feed-end.result next (c.loop-token.invariant.2 k clock dice l) f.1 f.2 (c.visit_feed-end.ensures.visited k clock dice f.0 l f.1) (sym c.is_some.ensures ∙ c.if-is_some.false),
    )

pub returns-then-is_some-clause-keeps : goal.returns-then-is_some-clause-keeps
returns-then-is_some-clause-keeps g c =
    let n = length c.args.hall.now.slots in
    let rest = drop (c.loop-token.place + 1) c.args.tokens.now in
    let b = books_of c.loop-token.shelf in
    let next = next_token c.args.tokens.now c.loop-token.place c.in-Some.token.now (within c.loop-token.place (length c.args.tokens.now) c.in-Some.ensures.lookup.0) c.in-Some.ensures.lookup.1 in
    let kept : Keeps n (c.in-Some.token.now ∷ rest) b = subst (λ z. Keeps n z b) next c.loop-token.invariant.1 in
    let f = finds_quiet n c.in-Some.token.now rest b kept in
    keeps_front n rest _ (c.visit_feed-end.ensures.keeps rest f.0 f.1 f.2 (is_apart n c.in-Some.token.now rest b kept) (keeps_dropping n c.in-Some.token.now rest b kept))

pub returns-then-is_some-clause-visited : goal.returns-then-is_some-clause-visited
returns-then-is_some-clause-visited g c = λ k clock dice held stage l.
    let n = length c.args.hall.now.slots in
    let rest = drop (c.loop-token.place + 1) c.args.tokens.now in
    let b = books_of c.loop-token.shelf in
    let next = next_token c.args.tokens.now c.loop-token.place c.in-Some.token.now (within c.loop-token.place (length c.args.tokens.now) c.in-Some.ensures.lookup.0) c.in-Some.ensures.lookup.1 in
    let kept : Keeps n (c.in-Some.token.now ∷ rest) b = subst (λ z. Keeps n z b) next c.loop-token.invariant.1 in
    let f = finds_quiet n c.in-Some.token.now rest b kept in
    visited_end k _ _ _ _ (working g.C.Engine.some_state c.loop-token.desk b clock dice) (working g.C.Engine.some_state c.visit_feed-end.new.desk (books_of c.visit_feed-end.new.shelf) clock dice) c.args.tokens.now c.in-Some.token.now (drop c.loop-token.place c.args.tokens.now) rest f.0 c.visit_feed-end.result next (c.loop-token.invariant.2 k clock dice l) f.1 f.2 (c.visit_feed-end.ensures.visited k clock dice f.0 l f.1) (sym c.is_some.ensures ∙ c.if-is_some.true) held stage

pub returns-clause-keeps : goal.returns-clause-keeps
returns-clause-keeps g c = keeps_front (length c.args.hall.now.slots) (drop c.loop-token.place c.args.tokens.now) _ c.loop-token.invariant.1

pub returns-clause-visited : goal.returns-clause-visited
returns-clause-visited g c = λ k clock dice held stage l. visited_all k _ _ _ _ c.args.tokens.now c.loop-token.place c.in_default.ensures.lookup.3 (c.loop-token.invariant.2 k clock dice l) held stage
