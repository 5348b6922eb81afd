-- What one receive does, before and after the greeting was whole.
use Rattle.std.specs.Prelude.{◌≡◌, ◌≤◌, ℕ, List, [], ◌++◌, length, drop, true}
use Rattle.reql_outside.specs.Tape.{Tape, Moves, recv_failed}
use Rattle.reql_wire.specs.Greeting.{Listening, Greets}
use Rattle.reql_wire.specs.declared.greeter.Greeting.TheVariants as greeting
use Rattle.reql_hearing.specs.declared.greeting.Heard.{Heard}
use Rattle.reql_hearing.specs.declared.greeting.Heard.TheVariants as heard
use Rattle.reql_hearing.specs.declared.receiving.Received.{Received}
use Rattle.reql_hearing.specs.declared.receiving.Received.TheVariants as received

-- a piece came, for which there was so much room
pub record Came (old new : Tape) (room : ℕ) (piece : List ℕ) : Type 0 where
  pub moves : Moves old new piece [] 0 old.over
  pub some : 1 ≤ length piece
  pub fits : length piece ≤ room

-- nothing came; nothing more will come; a receive failed
abbrev pub IsIdle : Tape → Tape → Type 0
IsIdle old new = Moves old new [] [] 1 old.over

abbrev pub IsOver : Tape → Tape → Type 0
IsOver old new = Moves old new [] [] 0 true

abbrev pub IsFailed : Tape → Tape → Type 0
IsFailed old new = Moves (recv_failed old) new [] [] 0 old.over

-- The greeter before and after it, and the bytes that are held behind the greeting.
abbrev pub Hears : Tape → Tape → ℕ → Listening → Listening → List ℕ → Heard → Type 0
Hears old new room g h held heard.Idle = IsIdle old new × (h ≡ g) × (held ≡ [])
Hears old new room g h held heard.More = (piece : List ℕ) × Came old new room piece × (h.heard ≡ g.heard ++ piece) × Greets g.key (g.heard ++ piece) greeting.More × (held ≡ [])
Hears old new room g h held heard.Accepted = (piece : List ℕ) × (used : ℕ) × Came old new room piece × Greets g.key (g.heard ++ piece) (greeting.Accepted used) × (drop used (g.heard ++ piece) ≡ held)
Hears old new room g h held heard.Called = (piece : List ℕ) × Came old new room piece × Greets g.key (g.heard ++ piece) (greeting.Login 4) × (drop 4 (g.heard ++ piece) ≡ held)
Hears old new room g h held (heard.Refused fault) = (piece : List ℕ) × Came old new room piece × Greets g.key (g.heard ++ piece) (greeting.Refused fault)
Hears old new room g h held heard.Lost = (piece : List ℕ) × Came old new room piece
Hears old new room g h held heard.Over = IsOver old new × (h ≡ g) × (held ≡ [])
Hears old new room g h held heard.Failed = IsFailed old new × (h ≡ g)

-- the bytes that are held before and after it
abbrev pub Receives : Tape → Tape → ℕ → List ℕ → List ℕ → Received → Type 0
Receives old new room a b received.Idle = IsIdle old new × (b ≡ a)
Receives old new room a b received.Piece = (piece : List ℕ) × Came old new room piece × (b ≡ a ++ piece)
Receives old new room a b received.Lost = (piece : List ℕ) × Came old new room piece × (b ≡ a)
Receives old new room a b received.Over = IsOver old new × (b ≡ a)
Receives old new room a b received.Failed = IsFailed old new × (b ≡ a)
