-- What a turn of a login does before its message is sent.
use Rattle.std.specs.Prelude.{◌≡◌, ◌≢◌, ◌≤◌, ℕ, List, [], ◌∷◌, length, drop, true, false, Option, Result, Ok, Err, Vec}
use Rattle.std.specs.declared.alloc.Global.{Global}
use Rattle.reql_outside.specs.Tape.{Tape, SendsAll}
use Rattle.reql_scram.specs.Faults.{refusal}
use Rattle.reql_scram.specs.Scram.{Account, Challenge}
use Rattle.reql_scram.specs.declared.fault.LoginFault.{LoginFault}
use Rattle.reql_scram.specs.declared.fault.LoginFault.TheVariants as fault
use Rattle.reql_login.specs.Turns.{Gate, Greeted, Asked, Turn, Waits, Rolls, Says, Admits, Refuses, after_roll, turn_of}
use Rattle.reql_wire.specs.declared.greeter.GreetFault.TheVariants as greet_fault
use Rattle.reql_session_spec.specs.declared.end.End.{End}
use Rattle.reql_session_spec.specs.declared.end.End.TheVariants as ends
use Rattle.reql_session_api.specs.World.{AtWork}
use Rattle.reql_turns.specs.Rolling.{RollsAll}
use Rattle.reql_turns.specs.declared.login.First.{First}
use Rattle.reql_turns.specs.declared.login.First.TheVariants as first
use Rattle.reql_turns.specs.declared.login.Last.{Last}
use Rattle.reql_turns.specs.declared.login.Last.TheVariants as last

module _ (account : Account) where
  -- what comes of a login, after these rolls
  pub data Comes : Gate → List ℕ → List (Option (List ℕ)) → Turn → Type 0 where
    now : (gate : Gate) (held : List ℕ) (turn : Turn) → turn_of account gate held ≡ turn → Comes gate held [] turn
    rolls : (gate : Gate) (held : List ℕ) (bytes : Option (List ℕ)) (more : List (Option (List ℕ))) (turn : Turn)
        → turn_of account gate held ≡ Rolls → Comes (after_roll gate bytes) held more turn → Comes gate held (bytes ∷ more) turn

  -- it comes by these rolls of what handles frames
  pub record ComesBy (gate : Gate) (held : List ℕ) (w x : AtWork) (turn : Turn) : Type 0 where
    pub rolls : List (Option (List ℕ))
    pub rolled : RollsAll w x rolls
    pub comes : Comes gate held rolls turn

  -- where memory is wanted, something was to be answered
  abbrev pub Wants : Gate → List ℕ → AtWork → AtWork → Type 0
  Wants gate held w x = (turn : Turn) × ComesBy gate held w x turn × (turn ≢ Waits)

  abbrev pub IsRefused : Gate → List ℕ → AtWork → AtWork → LoginFault → Type 0
  IsRefused gate held w x f = (f ≡ fault.Memory → Wants gate held w x) × (f ≢ fault.Memory → ComesBy gate held w x (Refuses f))

  -- what the client is asked for, with these bytes left
  abbrev pub AskedFor : List ℕ → List ℕ → AtWork → AtWork → Result (Challenge × Vec ℕ Global) LoginFault → Type 0
  AskedFor held rest w x (Ok asked) = ComesBy Greeted held w x (Says asked.1.items rest (Asked asked.0))
  AskedFor held rest w x (Err f) = IsRefused Greeted held w x f

  -- a turn in which the client's first message is awaited
  abbrev pub FirstTurn : List ℕ → AtWork → AtWork → First → Type 0
  FirstTurn held w x first.Waits = (x ≡ w) × (turn_of account Greeted held ≡ Waits)
  FirstTurn held w x (first.Asks proving message used) = (used ≤ length held) × ComesBy Greeted held w x (Says message.items (drop used held) (Asked proving))
  FirstTurn held w x (first.Refuses f) = IsRefused Greeted held w x f

  -- a turn in which its last message is awaited
  abbrev pub LastTurn : Challenge → List ℕ → Last → Type 0
  LastTurn challenge held (last.Waits proving) = (proving ≡ challenge) × (turn_of account (Asked challenge) held ≡ Waits)
  LastTurn challenge held (last.Admits message used) = (used ≤ length held) × (turn_of account (Asked challenge) held ≡ Admits message.items (drop used held))
  LastTurn challenge held (last.Refuses f) = (f ≡ fault.Memory → turn_of account (Asked challenge) held ≢ Waits) × (f ≢ fault.Memory → turn_of account (Asked challenge) held ≡ Refuses f)

-- a refusal was sent, whole or not, or memory was wanted
abbrev pub TurnsAway : Tape → Tape → LoginFault → End → Type 0
TurnsAway t u f ends.Memory = (u ≡ t) × (f ≡ fault.Memory)
TurnsAway t u f (ends.Refused why) = (f ≢ fault.Memory) × (why ≡ greet_fault.Login f) × SendsAll t u (refusal f) true
TurnsAway t u f ends.WriteFault = (f ≢ fault.Memory) × SendsAll t u (refusal f) false
TurnsAway t u f end = ⊥
