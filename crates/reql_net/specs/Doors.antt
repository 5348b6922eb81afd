-- What a door tells of itself, and one that hands out a list.
use Rattle.std.specs.Prelude.{◌≡◌, ◌==◌, ℕ, Bool, true, false, List, [], ◌∷◌}
use Rattle.std.specs.List.{list_any}
use Rattle.reql_outside.specs.Tape as tape
use Rattle.reql_outside.specs.Tape.{Tape, counted}
use Rattle.reql_outside.specs.Played.{Played}
use Rattle.reql_net.specs.declared.door.Accept.{Accept}
use Rattle.reql_net.specs.declared.door.Accept.TheVariants as accept

-- how many links it gave, whether it has answered that no more come or that it failed, whether it failed, and how often
pub record DoorTold : Type 0 where
  pub gave : ℕ
  pub over : Bool
  pub broken : Bool
  pub faults : ℕ

-- a door before its first call
abbrev pub untouched : DoorTold
untouched = record { gave = 0; over = false; broken = false; faults = 0 }

-- one call, over links that tell their tapes: a link that it gives is fresh
abbrev pub Opens : {L : Type 0} → (L → Tape) → DoorTold → DoorTold → Accept L → Type 0
Opens tape_of old new (accept.Link l) = (new ≡ record old { gave = counted old.gave 1 }) × tape.IsFresh (tape_of l)
Opens tape_of old new accept.Idle = new ≡ old
Opens tape_of old new accept.End = new ≡ record old { over = true }
Opens tape_of old new accept.Failed = new ≡ record old { over = true; broken = true; faults = counted old.faults 1 }

-- a door in memory: the links that it has yet to give, how many calls there were, and which of these, from 0, fail
pub record Listed : Type 0 where
  pub told : DoorTold
  pub links : List Played
  pub calls : ℕ
  pub fails : List ℕ

abbrev pub opening : List Played → List ℕ → Listed
opening links fails = record { told = untouched; links = links; calls = 0; fails = fails }

abbrev pub fails_now : Listed → Bool
fails_now d = list_any (λ k. k == d.calls) d.fails

-- one call: the next link, or the end past the last, or it is to fail; it is never idle
abbrev pub Hands : Listed → Listed → Accept Played → Type 0
Hands old new (accept.Link l) =
    (fails_now old ≡ false)
    × (old.links ≡ l ∷ new.links)
    × (new ≡ record old { told = new.told; links = new.links; calls = counted old.calls 1 })
Hands old new accept.Idle = ⊥
Hands old new accept.End =
    (fails_now old ≡ false) × (old.links ≡ []) × (new ≡ record old { told = new.told; calls = counted old.calls 1 })
Hands old new accept.Failed =
    (fails_now old ≡ true) × (new ≡ record old { told = new.told; calls = counted old.calls 1 })
