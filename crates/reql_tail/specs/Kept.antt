-- What is kept of a history.
use Rattle.std.specs.Prelude.{◌≡◌, ◌≤◌, ◌<◌, ◌⊎◌, ℕ, ◌+◌, ◌/◌, List, [], ◌∷◌, ◌++◌, length, Bool}
use Rattle.reql_tail.specs.Led.{led}

-- Over values B and entries E: the value from which the history began, the base, the entries since, how many may be kept, and whether the next
-- one takes no memory.
pub record Kept (B E : Type 0) : Type 0 where
  pub opening : B
  pub base : B
  pub entries : List E
  pub most : ℕ
  pub ready : Bool

module _ {B E S : Type 0} (state : B → S) (after : S → E → S) where
  -- where the entries lead from the base
  abbrev pub standing : Kept B E → S
  standing k = led after (state k.base) k.entries

  -- an entry more, from the same base
  pub record Lengthens (old new : Kept B E) (entry : E) : Type 0 where
    pub base : new.base ≡ old.base
    pub entries : new.entries ≡ old.entries ++ entry ∷ []

  -- an entry more, where a first part goes, of one entry at least: the base is what it led to, and the part that stays has at least half of the most
  pub record Moves (old new : Kept B E) (entry : E) : Type 0 where
    pub gone : List E
    pub left : List E
    pub some : 1 ≤ length gone
    pub parts : old.entries ≡ gone ++ left
    pub base : state new.base ≡ led after (state old.base) gone
    pub entries : new.entries ≡ left ++ entry ∷ []
    pub least : old.most / 2 ≤ length left

  -- what an entry makes of what is kept: a part goes only where the most are kept
  pub record Adds (old new : Kept B E) (entry : E) : Type 0 where
    pub opening : new.opening ≡ old.opening
    pub most : new.most ≡ old.most
    pub how : ((length old.entries < old.most) × Lengthens old new entry) ⊎ ((length old.entries ≡ old.most) × Moves old new entry)

  module _ (place : S → ℕ) where
    -- while no more entries came than the most, the base is where the history began; and after it has moved, at least half of the most are kept
    pub record IsKept (k : Kept B E) : Type 0 where
      pub few : length k.entries ≤ k.most
      pub base : place (standing k) ≤ place (state k.opening) + k.most → k.base ≡ k.opening
      pub least : (k.base ≡ k.opening) ⊎ (k.most / 2 ≤ length k.entries)
