-- A turn begins, and a frame is begun with.
use Rattle.std.proofs.Common.{◌≡◌, inl, inr, ℕ, Bool, true, false, true≢false, ◌||◌, nat_eq, is_some, List, [], ◌∷◌, ◌++◌, Option, Some, None, refl, subst, append-nil, eqb-true}
use Rattle.reql_outside.specs.Tape.{Tape}
use Rattle.reql_wire.specs.Frames.{Fits, spelling}
use Rattle.reql_wire.specs.declared.frame.Frame.{Frame}
use Rattle.reql_session_spec.specs.Requests.{Asked}
use Rattle.reql_session_spec.specs.Books.{Books, Open, feed_of, has_token, is_open, cursor_of}
use Rattle.reql_session_spec.specs.Tasks.{Talk, begin, takes_up}
use Rattle.reql_session_spec.specs.Logins.{Stage, Admitted}
use Rattle.reql_session_spec.specs.Session.{Rest, Visits, goes_on}
use Rattle.reql_session_spec.specs.declared.end.End.{End}
use Rattle.reql_session_spec.proofs.Going.{goes_said}
use Rattle.reql_session_spec.proofs.Steps.{same_moves, goes_turn, does_begin}
use Rattle.reql_session_api.specs.World.{AtWork, World, Runs, Outcome, mach_at, place_at, world_at, world_of}
use Rattle.reql_session_api.proofs.Running.{runs_on, runs_quiet, ends_here_on}
use Rattle.reql_open_cursors.specs.Quiet.{AllQuiet, IsQuiet}
use Rattle.reql_open_cursors.proofs.Keeping.{or_off}
use Rattle.reql_session.specs.Keeping.{Keeps}
use Rattle.reql_session.specs.Settling.{Settles, SettlesOrWants}
use Rattle.reql_session.proofs.Visited.{outcome_on}

-- ---- a token that has nothing open doesn't wait
first_no : (x y : Bool) → (x || y) ≡ false → x ≡ false
first_no false y e = refl
first_no true y e = absurd (true≢false e)

second_no : (x y : Bool) → (x || y) ≡ false → y ≡ false
second_no false y e = e
second_no true y e = absurd (true≢false e)

none_quiet : (o : Option Open) → is_some o ≡ false → IsQuiet o → ⊥
none_quiet None e q = q
none_quiet (Some f) e q = true≢false e

same_number : (u t : ℕ) (fs : List Open) (b : Bool) → nat_eq u t ≡ b → is_some (feed_of t fs) ≡ false → IsQuiet (feed_of u fs) → b ≡ false
same_number u t fs false e h q = refl
same_number u t fs true e h q = absurd (none_quiet (feed_of t fs) h (subst (λ z. IsQuiet (feed_of z fs)) (eqb-true u t e) q))

pub unseen : (t : ℕ) (fs : List Open) (ts : List ℕ) → AllQuiet fs ts → is_some (feed_of t fs) ≡ false → has_token t ts ≡ false
unseen t fs [] q h = refl
unseen t fs (u ∷ ts) q h = or_off (nat_eq u t) (has_token t ts) (same_number u t fs (nat_eq u t) refl h q.1) (unseen t fs ts q.2 h)

pub not_waiting : (n t : ℕ) (b : Books) → is_open t b ≡ false → Keeps n [] b → has_token t (b.waiting ++ []) ≡ false
not_waiting n t b o k = unseen t b.feeds (b.waiting ++ []) k.quiet (second_no (is_some (cursor_of t b.cursors)) (is_some (feed_of t b.feeds)) o)

-- ---- the tokens that wait are visited
pub keeps_turn : (n : ℕ) (b : Books) → Keeps n [] b → Keeps n b.waiting (record b { waiting = [] })
keeps_turn n b k = record { apart = record { cursors = k.apart.cursors; feeds = k.apart.feeds }; quiet = subst (AllQuiet b.feeds) (append-nil b.waiting) k.quiet; there = k.there }

module _ {PL : Type 0} (k : Talk PL) where
  outcome_then : (a b : World PL) (u : Tape) (v : AtWork) (held : List ℕ) (stage : Stage) (end : Option End) → Runs k a b 1 → Outcome k b u v held stage (Visits []) 0 end → Outcome k a u v held stage (Visits []) 1 end
  outcome_then a b u v held stage None r o = runs_on k a b (world_at u v held stage (Visits [])) 1 0 r o
  outcome_then a b u v held stage (Some end) r o = ends_here_on k a b u v end 1 0 r o

  pub turn_begun : (t u : Tape) (w x v : AtWork) (held : List ℕ) (stage : Stage) (end : Option End) → x ≡ record w { books = record w.books { waiting = [] } } → Outcome k (world_at t x held stage (Visits w.books.waiting)) u v held stage (Visits []) 0 end → Outcome k (world_at t w held stage Rest) u v held stage (Visits []) 1 end
  turn_begun t u w x v held stage end e o =
      outcome_then (world_at t w held stage Rest) (world_at t (record w { books = record w.books { waiting = [] } }) held stage (Visits w.books.waiting)) u v held stage end
      (runs_quiet k t t w (mach_at w held stage Rest) (mach_at (record w { books = record w.books { waiting = [] } }) held stage (Visits w.books.waiting)) 1 (goes_turn k t (place_at w (mach_at w held stage Rest)) refl))
      (subst (λ z. Outcome k (world_at t z held stage (Visits w.books.waiting)) u v held stage (Visits []) 0 end) e o)

  -- ---- a frame
  pub frame_begun : (t u : Tape) (w v : AtWork) (frame : Frame) (is_read : Bool) (rest : List ℕ) (end : Option End) → Fits k.limits.frame frame → Settles k t u w v (takes_up k w.books frame.token frame.body is_read) end → Outcome k (world_at t w (spelling frame ++ rest) Admitted (Visits [])) u v rest Admitted Rest 0 end
  frame_begun t u w v frame is_read rest end f s =
      outcome_on k (world_at t w (spelling frame ++ rest) Admitted (Visits [])) (world_of t w (goes_on (mach_at w rest Admitted Rest) None (takes_up k w.books frame.token frame.body is_read))) u v rest Admitted Rest end
      (runs_quiet k t t w (mach_at w (spelling frame ++ rest) Admitted (Visits [])) (goes_on (mach_at w rest Admitted Rest) None (takes_up k w.books frame.token frame.body is_read)) 0
      (goes_said k t t (place_at w (mach_at w (spelling frame ++ rest) Admitted (Visits []))) (place_at w (goes_on (mach_at w rest Admitted Rest) None (takes_up k w.books frame.token frame.body is_read))) []
      (does_begin k (place_at w (mach_at w (spelling frame ++ rest) Admitted (Visits []))) frame is_read rest refl refl f refl) (same_moves t)))
      (s rest Admitted None)

  pub read_or_not : (t u : Tape) (w v : AtWork) (token : ℕ) (body : List ℕ) (asked : Asked PL) (end : Option End) → asked ≡ k.asked body → SettlesOrWants k t u w v token (begin k w.books token asked) end → (is_read : Bool) × Settles k t u w v (takes_up k w.books token body is_read) end
  read_or_not t u w v token body asked end e (inl s) = (true, subst (λ z. Settles k t u w v (begin k w.books token z) end) e s)
  read_or_not t u w v token body asked end e (inr s) = (false, s)
