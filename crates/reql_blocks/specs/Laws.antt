-- Any bytes are read one way at most.
use Rattle.std.specs.Prelude.{◌≡◌, ℕ, List}
use Rattle.reql_blocks.specs.Format.{StandsFor}
use Rattle.reql_blocks.specs.Recovery.{IsDamaged}

-- they stand for one list of bodies
abbrev pub StandOnce : Type 0
StandOnce = (xs ys : List (List ℕ)) (bytes : List ℕ) → StandsFor xs bytes → StandsFor ys bytes → xs ≡ ys

-- or else aren't of the format
abbrev pub WholeIsNotDamaged : Type 0
WholeIsNotDamaged = (bodies : List (List ℕ)) (bytes : List ℕ) (place : ℕ) → StandsFor bodies bytes → IsDamaged bytes place → ⊥

-- from one place on
abbrev pub DamagedOnce : Type 0
DamagedOnce = (bytes : List ℕ) (p q : ℕ) → IsDamaged bytes p → IsDamaged bytes q → p ≡ q
