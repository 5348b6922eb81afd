-- The visits of a turn, one after another.
use Rattle.std.proofs.Common.{◌≡◌, ℕ, ◌+◌, ◌<◌, ◌≤◌, Bool, true, false, true≢false, is_some, nat_lt, List, [], ◌∷◌, ◌++◌, length, drop, get_or, drop-cons, add-one, Option, Some, None, refl, sym, ap, subst, ◌∙◌, arith}
use Rattle.std.proofs.lemmas.Bool.Decides.{nat_tests}
use Rattle.std.proofs.Math.ListN.{drop_of_length-le}
use Rattle.reql_outside.specs.Tape.{Tape}
use Rattle.reql_session_spec.specs.Books.{Books, Open, feed_of, has_token}
use Rattle.reql_session_spec.specs.Tasks.{Talk, Next, Visiting, at, visit, visit_feed, continue_left}
use Rattle.reql_session_spec.specs.Logins.{Stage}
use Rattle.reql_session_spec.specs.Session.{Doing, Visits, Rest, goes_on}
use Rattle.reql_session_spec.specs.declared.end.End.{End}
use Rattle.reql_session_spec.proofs.Going.{goes_said}
use Rattle.reql_session_spec.proofs.Steps.{same_moves, does_visit}
use Rattle.reql_session_api.specs.World.{AtWork, World, Runs, Outcome, mach_at, place_at, world_at, world_of}
use Rattle.reql_session_api.proofs.Running.{runs_on, runs_none, runs_quiet, ends_here_on}
use Rattle.reql_open_cursors.specs.Quiet.{IsQuiet}
use Rattle.reql_open_cursors.proofs.Quiet.{quiet_dropping}
use Rattle.reql_session.specs.Keeping.{Keeps}
use Rattle.reql_session.specs.Settling.{Settles}

-- ---- who is still to be visited
quiet_found : (o : Option Open) → IsQuiet o → (f : Open) × (o ≡ Some f) × (f.left ≡ [])
quiet_found None q = absurd q
quiet_found (Some f) q = (f, refl, q)

pub keeps_dropping : (n t : ℕ) (rest : List ℕ) (b : Books) → Keeps n (t ∷ rest) b → Keeps n rest b
keeps_dropping n t rest b k = record { apart = k.apart; quiet = (quiet_dropping b.feeds b.waiting t rest k.quiet).0; there = k.there }

pub is_apart : (n t : ℕ) (rest : List ℕ) (b : Books) → Keeps n (t ∷ rest) b → has_token t (b.waiting ++ rest) ≡ false
is_apart n t rest b k = (quiet_dropping b.feeds b.waiting t rest k.quiet).1

pub finds_quiet : (n t : ℕ) (rest : List ℕ) (b : Books) → Keeps n (t ∷ rest) b → (f : Open) × (feed_of t b.feeds ≡ Some f) × (f.left ≡ [])
finds_quiet n t rest b k = quiet_found (feed_of t b.feeds) (quiet_dropping b.feeds b.waiting t rest k.quiet).2

pub keeps_front : (n : ℕ) (rest : List ℕ) (b : Books) → Keeps n rest b → Keeps n [] b
keeps_front n [] b k = k
keeps_front n (t ∷ rest) b k = keeps_front n rest b (keeps_dropping n t rest b k)

pub within : (i n : ℕ) → true ≡ nat_lt i n → i < n
within i n e = grind (arith, nat_tests)

pub next_token : (tokens : List ℕ) (i t : ℕ) → i < length tokens → t ≡ get_or tokens i t → drop i tokens ≡ t ∷ drop (i + 1) tokens
next_token tokens i t h e = drop-cons tokens i t h ∙ (λ j. sym e j ∷ drop (sym (add-one i) j) tokens)

module _ {PL : Type 0} (k : Talk PL) where
  visit_is : (b : Books) (token : ℕ) (f : Open) → feed_of token b.feeds ≡ Some f → f.left ≡ [] → visit k b token ≡ at b (Visiting f.token f.arms [])
  visit_is b token f e l = ap (visit_feed k b token) e ∙ ap (continue_left k b f) l

  pub outcome_on : (a b : World PL) (u : Tape) (v : AtWork) (held : List ℕ) (stage : Stage) (d : Doing PL) (end : Option End) → Runs k a b 0 → Outcome k b u v held stage d 0 end → Outcome k a u v held stage d 0 end
  outcome_on a b u v held stage d None r o = runs_on k a b (world_at u v held stage d) 0 0 r o
  outcome_on a b u v held stage d (Some end) r o = ends_here_on k a b u v end 0 0 r o

  pub visits_one : (t u : Tape) (w v : AtWork) (token : ℕ) (left : List ℕ) (f : Open) (end : Option End) (held : List ℕ) (stage : Stage) → feed_of token w.books.feeds ≡ Some f → f.left ≡ [] →
      Settles k t u w v (at w.books (Visiting f.token f.arms [])) end → Outcome k (world_at t w held stage (Visits (token ∷ left))) u v held stage (Visits left) 0 end
  visits_one t u w v token left f end held stage e l s =
      outcome_on (world_at t w held stage (Visits (token ∷ left))) (world_of t w (goes_on (mach_at w held stage Rest) (Some left) (visit k w.books token))) u v held stage (Visits left) end
      (runs_quiet k t t w (mach_at w held stage (Visits (token ∷ left))) (goes_on (mach_at w held stage (Visits (token ∷ left))) (Some left) (visit k w.books token)) 0
      (goes_said k t t (place_at w (mach_at w held stage (Visits (token ∷ left)))) (place_at w (goes_on (mach_at w held stage (Visits (token ∷ left))) (Some left) (visit k w.books token))) [] (does_visit k (place_at w (mach_at w held stage (Visits (token ∷ left)))) token left refl) (same_moves t)))
      (subst (λ (z : Next PL). Outcome k (world_of t w (goes_on (mach_at w held stage Rest) (Some left) z)) u v held stage (Visits left) 0 end) (sym (visit_is w.books token f e l)) (s held stage (Some left)))

  -- so many tokens are visited
  abbrev pub VisitedTo : Tape → AtWork → Tape → AtWork → List ℕ → List ℕ → Type 0
  VisitedTo t w u v tokens left = (held : List ℕ) (stage : Stage) → Runs k (world_at t w held stage (Visits tokens)) (world_at u v held stage (Visits left)) 0

  pub visited_none : (t : Tape) (w : AtWork) (tokens : List ℕ) → VisitedTo t w t w tokens tokens
  visited_none t w tokens held stage = runs_none k (world_at t w held stage (Visits tokens))

  visited_more : (t u z : Tape) (w v y : AtWork) (tokens : List ℕ) (token : ℕ) (left : List ℕ) (f : Open) (end : Option End) → VisitedTo t w u v tokens (token ∷ left) → feed_of token v.books.feeds ≡ Some f → f.left ≡ [] → Settles k u z v y (at v.books (Visiting f.token f.arms [])) end →
      (held : List ℕ) (stage : Stage) → Outcome k (world_at t w held stage (Visits tokens)) z y held stage (Visits left) 0 end
  visited_more t u z w v y tokens token left f end r e l s held stage =
      outcome_on (world_at t w held stage (Visits tokens)) (world_at u v held stage (Visits (token ∷ left))) z y held stage (Visits left) end (r held stage) (visits_one u z v y token left f end held stage e l s)

  pub visited_next : (t u z : Tape) (w v y : AtWork) (tokens : List ℕ) (token : ℕ) (before left : List ℕ) (f : Open) (end : Option End) → before ≡ token ∷ left → VisitedTo t w u v tokens before → feed_of token v.books.feeds ≡ Some f → f.left ≡ [] → Settles k u z v y (at v.books (Visiting f.token f.arms [])) end → is_some end ≡ false →
      VisitedTo t w z y tokens left
  visited_next t u z w v y tokens token before left f None b r e l s h held stage = visited_more t u z w v y tokens token left f None (subst (VisitedTo t w u v tokens) b r) e l s held stage
  visited_next t u z w v y tokens token before left f (Some end) b r e l s h held stage = absurd (true≢false h)

  pub visited_end : (t u z : Tape) (w v y : AtWork) (tokens : List ℕ) (token : ℕ) (before left : List ℕ) (f : Open) (end : Option End) → before ≡ token ∷ left → VisitedTo t w u v tokens before → feed_of token v.books.feeds ≡ Some f → f.left ≡ [] → Settles k u z v y (at v.books (Visiting f.token f.arms [])) end → is_some end ≡ true →
      (held : List ℕ) (stage : Stage) → Outcome k (world_at t w held stage (Visits tokens)) z y held stage (Visits []) 0 end
  visited_end t u z w v y tokens token before left f None b r e l s h held stage = absurd (true≢false (sym h))
  visited_end t u z w v y tokens token before left f (Some end) b r e l s h held stage = visited_more t u z w v y tokens token left f (Some end) (subst (VisitedTo t w u v tokens) b r) e l s held stage

  pub visited_all : (t u : Tape) (w v : AtWork) (tokens : List ℕ) (i : ℕ) → length tokens ≤ i → VisitedTo t w u v tokens (drop i tokens) → VisitedTo t w u v tokens []
  visited_all t u w v tokens i h r = subst (VisitedTo t w u v tokens) (drop_of_length-le tokens h) r
