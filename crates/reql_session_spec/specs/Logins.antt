-- How far a session has come up to its first frame: by a greeting, or by a login and its messages.
use Rattle.std.specs.Prelude.{◌≡◌, ◌⊎◌, ℕ, Bool, List, [], ◌∷◌, ◌++◌, length, codes, Option, Some, None}
use Rattle.reql_scram.specs.Scram.{Account}
use Rattle.reql_scram.specs.Texts.{escaped}
use Rattle.reql_scram.specs.declared.fault.LoginFault.{LoginFault}
use Rattle.reql_login.specs.Turns.{Gate, after_roll, turn_of}
use Rattle.reql_login.specs.Turns as gates
use Rattle.reql_wire.specs.Greeting.{Greets}
use Rattle.reql_wire.specs.declared.greeter.GreetFault.{GreetFault}
use Rattle.reql_wire.specs.declared.greeter.GreetFault.TheVariants as fault
use Rattle.reql_wire.specs.declared.greeter.Greeting.TheVariants as greeting
use Rattle.reql_session_spec.specs.Tasks.{Talk}

-- No greeting and no version of a login was answered yet; its login stands so; or its greeting was accepted or its login is over,
-- and frames are handled.
pub data Stage : Type 0 where
  Waiting : Stage
  At : Gate → Stage
  Admitted : Stage

module _ {PL : Type 0} (k : Talk PL) where
  -- the one user, and the password
  abbrev pub account : Account
  account = record { name = escaped (codes "admin"); password = k.password }

  -- where its login stands: the version is held, or it was answered
  abbrev pub StandsAt : Stage → List ℕ → Gate → Type 0
  StandsAt s held gate = ((s ≡ Waiting) × Greets k.key held (greeting.Login 4) × (gate ≡ gates.Called)) ⊎ (s ≡ At gate)

  -- what comes next of a login that isn't over
  pub record InLogin (s : Stage) (held : List ℕ) (next : gates.Turn) : Type 0 where
    pub gate : Gate
    pub at : StandsAt s held gate
    pub turn : turn_of account gate held ≡ next

  -- when a session is refused: by its greeting, or in its login
  abbrev pub IsRefused : GreetFault → Stage → List ℕ → Type 0
  IsRefused f s held = ((s ≡ Waiting) × Greets k.key held (greeting.Refused f)) ⊎ ((g : LoginFault) × (f ≡ fault.Login g) × InLogin s held (gates.Refuses g))

  -- What a login takes of the input, by these rolls, from one stage to another: the version and the messages that were answered, each
  -- with its zero byte, whose bytes come first.
  pub data Passed : Stage → List ℕ → List (Option (List ℕ)) → Stage → Type 0 where
    here : (stage : Stage) → Passed stage [] [] stage
    calls : (bytes input : List ℕ) (rs : List (Option (List ℕ))) (stage : Stage)
        → Greets k.key bytes (greeting.Login 4) → length bytes ≡ 4
        → Passed (At gates.Greeted) input rs stage → Passed Waiting (bytes ++ input) rs stage
    rolls : (at : Gate) (held : List ℕ) (bytes : Option (List ℕ)) (rs : List (Option (List ℕ))) (input : List ℕ) (stage : Stage)
        → turn_of account at held ≡ gates.Rolls
        → Passed (At (after_roll at bytes)) input rs stage → Passed (At at) input (bytes ∷ rs) stage
    told : (at next : Gate) (used said input : List ℕ) (rs : List (Option (List ℕ))) (stage : Stage)
        → turn_of account at used ≡ gates.Says said [] next
        → Passed (At next) input rs stage → Passed (At at) (used ++ input) rs stage
    admits : (at : Gate) (used said : List ℕ) → turn_of account at used ≡ gates.Admits said [] → Passed (At at) used [] Admitted
