-- That each frame is answered, told by counting: for each token, how many answers its frames want, and how many were said with it.
use Rattle.std.specs.Prelude.{◌≡◌, ◌≤◌, ◌+◌, ℕ, nat_eq, Bool, true, false, not, cond, List, [], ◌∷◌}
use Rattle.reql_session_spec.specs.Requests.{Asked, Unreadable, Unplanned, Start}
use Rattle.reql_session_spec.specs.Tasks.{Talk}
use Rattle.reql_session_spec.specs.Session.{Event, Begin, Say, Doing, Rest, Visits, Leaving, Mach, fresh, Run}
use Rattle.reql_session_spec.specs.declared.end.End.TheVariants as ends

-- 1 where it is this token
abbrev pub same : ℕ → ℕ → ℕ
same token t = cond (nat_eq t token) 1 0

-- how often a token is in a list
abbrev pub times : ℕ → List ℕ → ℕ
times token [] = 0
times token (t ∷ ts) = same token t + times token ts

-- the answers that were said with a token, whole or in part
abbrev pub said_of : ℕ → Event → ℕ
said_of token (Say t a whole) = same token t
said_of token e = 0

abbrev pub said : ℕ → List Event → ℕ
said token [] = 0
said token (e ∷ es) = said_of token e + said token es

-- An answer is wanted, but of a START, or of a body that can't be read or planned, that comes with `noreply`.
abbrev pub wants : {PL : Type 0} → Asked PL → Bool
wants (Unreadable noreply text) = not noreply
wants (Unplanned noreply text) = not noreply
wants (Start noreply plan) = not noreply
wants other = true

-- A session stands still: no task is under way, no visit is left, and no send failed. So it does between turns, before it takes a
-- frame or receives, and in leaving.
abbrev pub IsStill : {PL : Type 0} → Doing PL → Type 0
IsStill Rest = Unit {0}
IsStill (Visits []) = Unit {0}
IsStill (Leaving arms ends.WriteFault) = ⊥
IsStill (Leaving arms end) = Unit {0}
IsStill other = ⊥

module _ {PL : Type 0} (k : Talk PL) where
  -- where memory is wanted while a body is read, it isn't known that no answer is wanted, and one is given, also with `noreply`
  abbrev pub wants_answer : List ℕ → Bool → Bool
  wants_answer body true = wants (k.asked body)
  wants_answer body false = true

  -- the answers that are wanted with a token, one a frame
  abbrev pub wanted_of : ℕ → Event → ℕ
  wanted_of token (Begin frame is_read) = cond (wants_answer frame.body is_read) (same token frame.token) 0
  wanted_of token e = 0

  abbrev pub wanted : ℕ → List Event → ℕ
  wanted token [] = 0
  wanted token (e ∷ es) = wanted_of token e + wanted token es

  -- The answers with a token in these events, which led here. One CONTINUE of it waits at most; no more are said than are wanted,
  -- without that one's; and where the session stands still, just as many.
  pub record Answers (token : ℕ) (es : List Event) (m : Mach PL) : Type 0 where
    pub one : times token m.books.waiting ≤ 1
    pub most : said token es + times token m.books.waiting ≤ wanted token es
    pub all : IsStill m.doing → said token es + times token m.books.waiting ≡ wanted token es

  -- Each frame that wants an answer is given one, with its token, before the next frame is taken, but for a CONTINUE that waits:
  -- that one is answered at a later visit, or before its feed is stopped, or not at all where the session ends first. Why it waits
  -- this does not say (`Waiting`). So it is after each beginning of a session's events; only where a send failed, what was under
  -- way, and what was still to be visited, may be left without one.
  abbrev pub EachIsAnswered : Type 0
  EachIsAnswered = (es : List Event) (m : Mach PL) → Run k fresh es m → (token : ℕ) → Answers token es m
