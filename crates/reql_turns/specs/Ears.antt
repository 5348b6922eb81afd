-- What a session has heard, as its machine has it.
use Rattle.std.specs.Prelude.{◌≡◌, ◌⊎◌, ◌<◌, ℕ, true, List, [], ◌++◌, drop, length, Option, Some, None}
use Rattle.reql_outside.specs.Tape.{Tape, Moves, recv_failed}
use Rattle.reql_hearing.specs.Hearing.{Came}
use Rattle.reql_wire.specs.Greeting.{Greets}
use Rattle.reql_wire.specs.declared.greeter.Greeting.TheVariants as greeting
use Rattle.reql_scram.specs.Scram.{Challenge}
use Rattle.reql_login.specs.Turns.{Gate, Asked, Greeted}
use Rattle.reql_session_spec.specs.Books.{no_books}
use Rattle.reql_session_spec.specs.Logins.{Stage, Waiting, At, Admitted}
use Rattle.reql_session_spec.specs.Tasks.{Talk}
use Rattle.reql_session_spec.specs.Session.{Rest, Visits}
use Rattle.reql_session_spec.specs.declared.end.End.{End}
use Rattle.reql_session_spec.specs.declared.end.End.TheVariants as ends
use Rattle.reql_session_api.specs.World.{AtWork, World, world_at, Runs, EndsHere}
use Rattle.reql_turns.specs.declared.ears.Ears.{Ears}
use Rattle.reql_turns.specs.declared.ears.Phase.{Phase}
use Rattle.reql_turns.specs.declared.ears.Phase.TheVariants as phases

-- no more comes while so many bytes are held
abbrev pub IsEnd : ℕ → End → Type 0
IsEnd held ends.Closed = held ≡ 0
IsEnd held (ends.Cut n) = (n ≡ held) × (0 < held)
IsEnd held end = ⊥

-- no frame is handled yet
abbrev pub IsEarly : Stage → Type 0
IsEarly Admitted = ⊥
IsEarly stage = Unit {0}

-- where a login stands whose version was answered, by what the last message is held against, once it was asked for
abbrev pub gate_of : Option Challenge → Gate
gate_of None = Greeted
gate_of (Some challenge) = Asked challenge

-- by where the greeting stands: the bytes that are held, and how far the session has come
abbrev pub Stands : Phase → Option Challenge → List ℕ → List ℕ → List ℕ → List ℕ → Stage → Type 0
Stands phases.Waiting proving key heard fed held stage = Greets key held greeting.More × (held ≡ heard) × (fed ≡ []) × (proving ≡ None) × (stage ≡ Waiting)
Stands phases.Whole proving key heard fed held stage = (used : ℕ) × Greets key held (greeting.Accepted used) × (drop used held ≡ fed) × (stage ≡ Waiting)
Stands phases.Called proving key heard fed held stage = Greets key held (greeting.Login 4) × (drop 4 held ≡ fed) × (proving ≡ None) × (stage ≡ Waiting)
Stands phases.Login proving key heard fed held stage = (held ≡ fed) × (stage ≡ At (gate_of proving))
Stands (phases.Wrong fault) proving key heard fed held stage = Greets key held (greeting.Refused fault) × (stage ≡ Waiting)
Stands phases.Over proving key heard fed held stage = (held ≡ fed) × (stage ≡ Admitted)

-- one receive after the greeting, by the bytes that are held before and after it
abbrev pub ReceivesMore : Tape → Tape → List ℕ → List ℕ → Option End → Type 0
ReceivesMore t u a b None = (Moves t u [] [] 1 t.over × (b ≡ a)) ⊎ ((piece : List ℕ) × Came t u 65536 piece × (b ≡ a ++ piece))
ReceivesMore t u a b (Some ends.Memory) = (piece : List ℕ) × Came t u 65536 piece
ReceivesMore t u a b (Some ends.ReadFault) = Moves (recv_failed t) u [] [] 0 t.over
ReceivesMore t u a b (Some end) = IsEnd (length a) end × Moves t u [] [] 0 true

module _ {PL : Type 0} (k : Talk PL) where
  -- a session's ears, where its machine holds these bytes and has come so far
  pub record Hearing (e : Ears) (held : List ℕ) (stage : Stage) : Type 0 where
    pub key : e.greeter.key ≡ k.key
    pub limit : e.feeder.limit ≡ k.limits.frame
    pub stands : Stands e.phase e.proving k.key e.greeter.heard e.feeder.held held stage

  -- a turn ends, or the session does
  pub record TurnsOver (a : World PL) (tape : Tape) (w : AtWork) (e : Ears) (n : ℕ) : Type 0 where
    pub held : List ℕ
    pub stage : Stage
    pub hearing : Hearing e held stage
    pub fresh : IsEarly stage → w.books ≡ no_books
    pub runs : Runs k a (world_at tape w held stage Rest) n

  abbrev pub Turned : World PL → Tape → AtWork → Ears → ℕ → Option End → Type 0
  Turned a tape w e n None = TurnsOver a tape w e n
  Turned a tape w e n (Some end) = EndsHere k a tape w end n

  -- what comes of a turn of the greeting, when nothing was done at the desk yet
  abbrev pub Hears : Phase → Tape → Tape → Ears → Ears → Option End → Type 0
  Hears phase t u d e end = (d.phase ≡ phase) → (w : AtWork) (held : List ℕ) (stage : Stage) → w.books ≡ no_books → Hearing d held stage → Turned (world_at t w held stage (Visits [])) u w e 0 end

  -- what comes of a turn of a login that stands so, where the feeder holds these bytes and the dice may be rolled
  abbrev pub Exchanges : Gate → Tape → AtWork → Ears → Tape → AtWork → Ears → Option End → Type 0
  Exchanges gate t w d u x e end = (d.phase ≡ phases.Login) → d.greeter.key ≡ k.key → d.feeder.limit ≡ k.limits.frame → w.books ≡ no_books
      → Turned (world_at t w d.feeder.held (At gate) (Visits [])) u x e 0 end

  -- a turn that begins where the ears are so, and what the desk is at
  abbrev pub TurnFrom : Tape → AtWork → Ears → Tape → AtWork → Ears → Option End → Type 0
  TurnFrom t w d u x e end = (held : List ℕ) (stage : Stage) → Hearing d held stage → (IsEarly stage → w.books ≡ no_books) → Turned (world_at t w held stage Rest) u x e 1 end

  -- some bytes are held, and it has come so far
  abbrev pub IsHearing : AtWork → Ears → Type 0
  IsHearing w d = (held : List ℕ) × (stage : Stage) × Hearing d held stage × (IsEarly stage → w.books ≡ no_books)

  -- nothing was heard yet
  abbrev pub IsFirst : Ears → Type 0
  IsFirst e = (e.greeter ≡ record { key = k.key; heard = [] }) × (e.feeder ≡ record { limit = k.limits.frame; held = [] }) × (e.phase ≡ phases.Waiting) × (e.proving ≡ None)
