-- What a sink tells of itself, and one that keeps what it took.
use Rattle.std.specs.Prelude.{◌≡◌, ◌==◌, ℕ, false, List, [], ◌++◌, Option, Some}
use Rattle.std.specs.List.{list_any}
use Rattle.reql_outside.specs.Tape.{counted, grown, IsBlank}
use Rattle.reql_outside.specs.declared.sink.Put.{Put}
use Rattle.reql_outside.specs.declared.sink.Put.TheVariants as put

-- the bytes that it took, where it tells them, and how often it failed
pub record Written : Type 0 where
  pub wrote : Option (List ℕ)
  pub faults : ℕ

-- a sink before its first call
pub record IsFresh (w : Written) : Type 0 where
  pub wrote : IsBlank w.wrote
  pub faults : w.faults ≡ 0

-- one call: the whole piece was taken, or a front of it, and it failed
abbrev pub Puts : Written → Written → List ℕ → Put → Type 0
Puts old new piece put.Done = new ≡ record { wrote = grown old.wrote piece; faults = old.faults }
Puts old new piece put.Failed =
    (front : List ℕ) × (back : List ℕ) × (piece ≡ front ++ back)
    × (new ≡ record { wrote = grown old.wrote front; faults = counted old.faults 1 })

-- a sink in memory: what it took, how many calls there were, which of these, from 0, fail, and how many did
pub record Kept : Type 0 where
  pub took : List ℕ
  pub calls : ℕ
  pub fails : List ℕ
  pub faults : ℕ

abbrev pub written : Kept → Written
written k = record { wrote = Some k.took; faults = k.faults }

abbrev pub opening : List ℕ → Kept
opening fails = record { took = []; calls = 0; fails = fails; faults = 0 }

-- one call: it takes the piece, and not where it is to fail; where it fails, it took nothing
abbrev pub Keeps : Kept → Kept → List ℕ → Put → Type 0
Keeps old new piece put.Done =
    (list_any (λ k. k == old.calls) old.fails ≡ false)
    × (new ≡ record old { took = old.took ++ piece; calls = counted old.calls 1 })
Keeps old new piece put.Failed =
    new ≡ record old { calls = counted old.calls 1; faults = counted old.faults 1 }
