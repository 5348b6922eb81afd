-- A session that is made turn by turn.
use Rattle.std.specs.Prelude.{◌≡◌, ◌≤◌, ℕ, [], Option, Some, None}
use Rattle.reql_outside.specs.Tape.{Tape, IsFresh}
use Rattle.reql_session_spec.specs.Books.{no_books}
use Rattle.reql_session_spec.specs.Logins.{Waiting}
use Rattle.reql_session_spec.specs.Tasks.{Talk}
use Rattle.reql_session_spec.specs.Session.{Rest}
use Rattle.reql_session_spec.specs.declared.end.End.{End}
use Rattle.reql_session_api.specs.World.{AtWork, world_at, Serves}
use Rattle.reql_turns.specs.Ears.{IsFirst, TurnsOver}
use Rattle.reql_turns.specs.declared.ears.Ears.{Ears}
use Rattle.reql_turns.specs.declared.running.Prepared.{Prepared}
use Rattle.reql_turns.specs.declared.running.Running.{Running}

module _ {PL : Type 0} (k : Talk PL) where
  -- what was at work when a session began, and its link, which was fresh
  pub record Began (start : AtWork) (begun : Tape) : Type 0 where
    pub fresh : IsFresh begun
    pub books : start.books ≡ no_books

  -- so many turns are over, by which a session came from its beginning to here, and no more than it may have
  pub record SoFar (start w : AtWork) (tape : Tape) (ears : Ears) (n : ℕ) : Type 0 where
    pub begun : Tape
    pub began : Began start begun
    pub over : TurnsOver k (world_at begun start [] Waiting Rest) tape w ears n
    pub within : n ≤ k.limits.turns

  -- a session has ended so, after so many turns, and all that is open is still to be closed
  pub record EndsSo (start w : AtWork) (tape : Tape) (end : End) (n : ℕ) : Type 0 where
    pub begun : Tape
    pub began : Began start begun
    pub serves : Serves k (world_at begun start [] Waiting Rest) k.limits.turns tape w end n

  -- what a session hears with, when nothing was heard yet
  abbrev pub IsPrepared : Prepared → Type 0
  IsPrepared p = IsFirst k p.ears

  module _ {L : Type 0} (tape : L → Tape) where
    -- A session goes on, which began where this was at work, and is so far now. It stands in the link by what the link tells
    -- alone: a link that is looked at, and tells what it told, is as good.
    abbrev pub IsOn : AtWork → AtWork → Running L → Type 0
    IsOn start w r = SoFar start w (tape r.link) r.ears r.turns

    -- some session goes on
    abbrev pub GoesOn : AtWork → Running L → Type 0
    GoesOn w r = (start : AtWork) × IsOn start w r

    -- a session that began there has ended
    abbrev pub HasEnded : AtWork → AtWork → Running L → End → Type 0
    HasEnded start w r end = EndsSo start w (tape r.link) end r.turns

    -- a session that began there goes on, or has ended
    abbrev pub Steps : AtWork → AtWork → Running L → Option End → Type 0
    Steps start w r None = IsOn start w r
    Steps start w r (Some end) = HasEnded start w r end

    -- what comes of a step, whatever its session began with
    abbrev pub StepsFrom : AtWork → Running L → AtWork → Running L → Option End → Type 0
    StepsFrom w r x s end = (start : AtWork) → IsOn start w r → Steps start x s end

    -- all turns up to an end
    abbrev pub EndsFrom : AtWork → Running L → AtWork → Running L → End → Type 0
    EndsFrom w r x s end = (start : AtWork) → IsOn start w r → HasEnded start x s end
