-- What dice and a clock tell of themselves, and lists that are played as such.
use Rattle.std.specs.Prelude.{◌≡◌, ◌==◌, Bool, ℕ, ◌-◌, ◌^◌, zero, suc, true, false, List, [], ◌∷◌, ◌++◌, length, take, get_or, Option, Some, None}
use Rattle.std.specs.List.{list_any}
use Rattle.reql_outside.specs.Tape.{counted}

-- what it gave so far, where it tells that, how often it failed, and whether it never fails, which no call changes
pub record Source (X : Type 0) : Type 0 where
  pub gave : Option (List X)
  pub faults : ℕ
  pub sound : Bool

module _ {X : Type 0} where
  -- before its first call
  abbrev pub IsBlank : Option (List X) → Type 0
  IsBlank None = Unit {0}
  IsBlank (Some xs) = xs ≡ []

  pub record IsFresh (s : Source X) : Type 0 where
    pub gave : IsBlank s.gave
    pub faults : s.faults ≡ 0

  -- A list with more of them, of which 2^64 - 1 are told: the list of one that gave so many stands still, as a count does.
  unfoldable pub longer : List X → List X → List X
  longer told xs = told ++ take (2 ^ 64 - 1 - length told) xs

  abbrev pub with_all : List X → Option (List X) → Option (List X)
  with_all xs None = None
  with_all xs (Some told) = Some (longer told xs)

  -- one call: it gave something, and did not fail, or it failed and gave nothing, and isn't sound
  abbrev pub Gives : Source X → Source X → Option X → Type 0
  Gives old new (Some x) = new ≡ record old { gave = with_all (x ∷ []) old.gave }
  Gives old new None = (old.sound ≡ false) × (new ≡ record old { faults = counted old.faults 1 })

-- A list that is played in order, and what comes past its end for good; how many were given, how many calls there were, and which of
-- these, from 0, fail.
pub record Played (X : Type 0) : Type 0 where
  pub list : List X
  pub rest : X
  pub given : ℕ
  pub calls : ℕ
  pub fails : List ℕ
  pub faults : ℕ

-- one that plays is sound where no call is told to fail
abbrev pub is_sound : List ℕ → Bool
is_sound [] = true
is_sound (k ∷ fails) = false

module _ {X : Type 0} where
  -- the first so many
  abbrev pub first : List X → X → ℕ → List X
  first xs rest zero = []
  first xs rest (suc n) = first xs rest n ++ get_or xs n rest ∷ []

  abbrev pub source : Played X → Source X
  source p = record { gave = Some (first p.list p.rest p.given); faults = p.faults; sound = is_sound p.fails }

  abbrev pub opening : List X → X → List ℕ → Played X
  opening xs rest fails = record { list = xs; rest = rest; given = 0; calls = 0; fails = fails; faults = 0 }

  -- whether the call to come is told to fail
  abbrev pub fails_now : Played X → Bool
  fails_now p = list_any (λ k. k == p.calls) p.fails

  -- one call: the next of the list, or it fails
  abbrev pub PlaysOn : Played X → Played X → Option X → Type 0
  PlaysOn old new (Some x) =
      (fails_now old ≡ false)
      × (x ≡ get_or old.list old.given old.rest)
      × (new ≡ record old { given = counted old.given 1; calls = counted old.calls 1 })
  PlaysOn old new None =
      (fails_now old ≡ true)
      × (new ≡ record old { calls = counted old.calls 1; faults = counted old.faults 1 })
