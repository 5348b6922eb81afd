-- A disk: what a read gives, what a crash may leave, and what one may have left at some moment since an earlier one.
use Rattle.std.specs.Prelude.{◌≡◌, ◌⊎◌, ℕ, ◌+◌, ◌≤◌, max, List, [], ◌∷◌, ◌++◌, length, take, drop}

-- What was done: a write of so many bytes at a place, where a read then gives these, or a sync that was answered Ok. Where the
-- write was answered Ok these are the bytes that were written; where it failed, any, and not more of them.
pub data Step : Type 0 where
  Wrote : (place count : ℕ) (left : List ℕ) → Step
  Synced : Step

-- What a disk held at first, all of it safe from a crash, and what was done since, the last of it first.
pub record Past : Type 0 where
  pub first : List ℕ
  pub steps : List Step

-- these bytes with others over them from a place on
abbrev pub over : List ℕ → ℕ → List ℕ → List ℕ
over old place bytes = take place old ++ bytes ++ drop (place + length bytes) old

-- what a read gives
abbrev pub seen_after : List ℕ → List Step → List ℕ
seen_after first [] = first
seen_after first (Wrote place count left ∷ steps) = over (seen_after first steps) place left
seen_after first (Synced ∷ steps) = seen_after first steps

-- What a crash may make of a write of so many bytes at a place: any bytes in that range and past the old end, the same elsewhere, and
-- the end anywhere between.
pub record Torn (place count : ℕ) (old new : List ℕ) : Type 0 where
  pub before : take place new ≡ take place old
  pub after : drop (place + count) new ≡ drop (place + count) old
  pub no_shorter : length old ≤ length new
  pub no_longer : length new ≤ max (length old) (place + count)

-- A crash now may leave this image. After a sync that is what a read gives; each write since may be torn, whatever becomes of the others.
abbrev pub LeftAfter : List ℕ → List Step → List ℕ → Type 0
LeftAfter first [] image = image ≡ first
LeftAfter first (Wrote place count left ∷ steps) image = (before : List ℕ) × LeftAfter first steps before × Torn place count before image
LeftAfter first (Synced ∷ steps) image = image ≡ seen_after first steps

abbrev pub seen : Past → List ℕ
seen past = seen_after past.first past.steps

abbrev pub Left : Past → List ℕ → Type 0
Left past image = LeftAfter past.first past.steps image

-- A crash at some moment may have left this image: at that of the earlier steps, or at one of those since.
abbrev pub LeftSince : List ℕ → List Step → List Step → List ℕ → Type 0
LeftSince first earlier [] image = LeftAfter first earlier image
LeftSince first earlier (step ∷ since) image = LeftAfter first ((step ∷ since) ++ earlier) image ⊎ LeftSince first earlier since image

-- From one past to a later one, whatever moment a crash comes at, what it leaves has P.
pub record Leaves (P : List ℕ → Type 0) (old new : Past) : Type 0 where
  pub since : List Step
  pub first : new.first ≡ old.first
  pub steps : new.steps ≡ since ++ old.steps
  pub each : (image : List ℕ) → LeftSince old.first old.steps since image → P image

-- What a read gives has P, and so has all that a crash may leave now.
pub record Holds (P : List ℕ → Type 0) (past : Past) : Type 0 where
  pub reads : P (seen past)
  pub crashes : (image : List ℕ) → Left past image → P image

-- A write begins at most at the end of what a read gives, and leaves no more than it was to write.
abbrev pub IsMade : List ℕ → Step → Type 0
IsMade seen (Wrote place count left) = (place ≤ length seen) × (length left ≤ count)
IsMade seen Synced = Unit {0}

-- Each of these steps, the last of them first, was made so: then a read gives what a crash may leave.
abbrev pub MadeBy : List ℕ → List Step → Type 0
MadeBy first [] = Unit {0}
MadeBy first (step ∷ steps) = IsMade (seen_after first steps) step × MadeBy first steps
