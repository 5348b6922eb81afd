-- The entries that are kept, in two halves.
use Rattle.std.specs.Prelude.{◌≡◌, ◌≤◌, ◌<◌, ◌⊎◌, ℕ, ◌+◌, ◌/◌, ◌^◌, nat_lt, List, [], ◌∷◌, ◌++◌, length, Bool, true, ◌&&◌, not, Option, Some, None, vec_capacity}
use Rattle.reql_tail.specs.Led.{led}
use Rattle.reql_tail.specs.declared.half.Half.{Half}

module _ {B E : Type 0} where
  abbrev pub entries_in : Option (Half B E) → List E
  entries_in None = []
  entries_in (Some h) = h.entries.items

  -- all that are kept, oldest first
  abbrev pub all_entries : Half B E → Option (Half B E) → List E
  all_entries older newer = older.entries.items ++ entries_in newer

  abbrev pub has_room : Half B E → Bool
  has_room h = nat_lt (length h.entries.items) (vec_capacity h.entries)

  -- the half to which an entry goes that begins none
  abbrev pub last_half : Half B E → Option (Half B E) → Half B E
  last_half older None = older
  last_half older (Some h) = h

  -- whether the next entry begins a half: the only one is half of the most, or two of them are the most
  abbrev pub turns : ℕ → Half B E → Option (Half B E) → Bool
  turns most older None = not (nat_lt (length older.entries.items) (most / 2))
  turns most older (Some h) = not (nat_lt (length older.entries.items + length h.entries.items) most)

  -- whether the next entry takes no memory
  abbrev pub is_ready : ℕ → Half B E → Option (Half B E) → Option (Half B E) → Bool
  is_ready most older newer None = not (turns most older newer) && has_room (last_half older newer)
  is_ready most older newer (Some h) = true

  -- halves that may have other room
  abbrev pub IsSame : Half B E → Half B E → Type 0
  IsSame h n = (n.start ≡ h.start) × (n.entries.items ≡ h.entries.items)

  abbrev pub AreSame : Half B E → Option (Half B E) → Half B E → Option (Half B E) → Type 0
  AreSame older None now None = IsSame older now
  AreSame older None now (Some n) = ⊥
  AreSame older (Some h) now None = ⊥
  AreSame older (Some h) now (Some n) = (now ≡ older) × IsSame h n

  -- an entry more in the last half
  abbrev pub IsAdded : Half B E → Option (Half B E) → E → Half B E → Option (Half B E) → Type 0
  IsAdded older None entry now None = (now.start ≡ older.start) × (now.entries.items ≡ older.entries.items ++ entry ∷ [])
  IsAdded older None entry now (Some n) = ⊥
  IsAdded older (Some h) entry now None = ⊥
  IsAdded older (Some h) entry now (Some n) = (now ≡ older) × (n.start ≡ h.start) × (n.entries.items ≡ h.entries.items ++ entry ∷ [])

  -- an entry begins a half, and the newer one becomes the older one, if there are two
  abbrev pub IsTurned : Half B E → Option (Half B E) → Half B E → E → Half B E → Option (Half B E) → Type 0
  IsTurned older o next entry now None = ⊥
  IsTurned older o next entry now (Some n) = (now ≡ last_half older o) × (n.start ≡ next.start) × (n.entries.items ≡ next.entries.items ++ entry ∷ [])

  module _ {S : Type 0} (state : B → S) (after : S → E → S) (place : S → ℕ) where
    -- where the entries lead
    abbrev pub end_of : Half B E → Option (Half B E) → S
    end_of older newer = led after (state older.start) (all_entries older newer)

    -- the newer half goes on where the older one ends, and each is about half of the most
    pub record GoesOn (most : ℕ) (older newer : Half B E) : Type 0 where
      pub start : state newer.start ≡ led after (state older.start) older.entries.items
      pub least : most / 2 ≤ length older.entries.items
      pub half : length older.entries.items + most / 2 ≤ most
      pub few : length older.entries.items + length newer.entries.items ≤ most

    abbrev pub NewerFits : ℕ → Half B E → Option (Half B E) → Type 0
    NewerFits most older None = length older.entries.items ≤ most / 2
    NewerFits most older (Some h) = GoesOn most older h

    -- the half that the next entry begins starts where the entries lead
    pub record Begins (most : ℕ) (older : Half B E) (newer : Option (Half B E)) (h : Half B E) : Type 0 where
      pub none : h.entries.items ≡ []
      pub room : has_room h ≡ true
      pub start : state h.start ≡ end_of older newer
      pub turn : turns most older newer ≡ true

    abbrev pub NextFits : ℕ → Half B E → Option (Half B E) → Option (Half B E) → Type 0
    NextFits most older newer None = Unit {0}
    NextFits most older newer (Some h) = Begins most older newer h

    -- the base is the opening one, or it has moved: then more entries came than the most, and at least half of the most are kept
    pub record HasMoved (most : ℕ) (opening : B) (older : Half B E) (newer : Option (Half B E)) : Type 0 where
      pub far : place (state opening) + most < place (state older.start) + length (all_entries older newer)
      pub least : most / 2 ≤ length (all_entries older newer)

    pub record Keeps (most : ℕ) (opening : B) (older : Half B E) (newer next : Option (Half B E)) : Type 0 where
      pub least : 2 ≤ most
      pub number : most < 2 ^ 32
      pub halves : NewerFits most older newer
      pub coming : NextFits most older newer next
      pub moved : (older.start ≡ opening) ⊎ HasMoved most opening older newer
