-- How the use of a desk is divided among those whom it served.
use Rattle.std.specs.Prelude.{◌≡◌, ℕ, List, [], ◌∷◌, ◌++◌, map, All}
use Rattle.std.specs.List.{AllZip, flat_map}
use Rattle.reql_shared.specs.declared.recorded.Recorded.{Recorded}
use Rattle.reql_shared.specs.History.{Begins, own}
use Rattle.reql_shared.specs.Sight.{Sight}
use Rattle.reql_shared.specs.Parts.{Part, between, Lies}
use Rattle.reql_hall.specs.Rooms.{Sitting, Histories, history_at, pass}

-- What a desk did from one moment to a later one: its part on the names and that on each slot.
pub record Share (C S NC NS : Type 0) : Type 0 where
  pub names : Part NC NS
  pub slots : ℕ → Part C S

-- Beginnings of the histories of a hall: of that of the names and of that of each slot.
pub record Seen (C NC : Type 0) : Type 0 where
  pub names : List (Recorded NC)
  pub slots : ℕ → List (Recorded C)

module _ {C : Type 0} where
  -- from the one beginning of a history to the other came entries of others alone
  abbrev pub Idles : ℕ → List (Recorded C) → List (Recorded C) → Type 0
  Idles number before after = (gap : List (Recorded C)) × (after ≡ before ++ gap) × (own number gap ≡ [])

module _ {C S : Type 0} where
  -- from the one beginning of a history to the other these parts follow one another, with entries of others alone between them
  abbrev pub Chained : ℕ → List (Recorded C) → List (Part C S) → List (Recorded C) → Type 0
  Chained number before [] after = Idles number before after
  Chained number before (p ∷ ps) after = Idles number before p.before × Chained number (p.before ++ p.during) ps after

  -- the second part is of the same use of the same history
  pub record Within (whole part : Part C S) : Type 0 where
    pub start : part.start ≡ whole.start
    pub number : part.number ≡ whole.number

  -- these parts, in order, are the whole part: its own entries and its marks are theirs, with nothing left
  pub record Divides (whole : Part C S) (parts : List (Part C S)) : Type 0 where
    pub within : All (Within whole) parts
    pub order : Chained whole.number whole.before parts (whole.before ++ whole.during)
    pub owned : own whole.number whole.during ≡ flat_map (λ (p : Part C S). own p.number p.during) parts
    pub marks : whole.marks ≡ flat_map (λ (p : Part C S). p.marks) parts

  -- a pass was used: it has seen more, and has more marks
  pub record Grew (old new : Sight C S) : Type 0 where
    pub more : List (Recorded C)
    pub added : List ℕ
    pub object : new.object ≡ old.object
    pub number : new.number ≡ old.number
    pub seen : new.seen ≡ old.seen ++ more
    pub marks : new.marks ≡ old.marks ++ added

module _ {C S NC NS : Type 0} (some : S) where
  -- a desk was used
  pub record Grows (old new : Sitting C S NC NS) : Type 0 where
    pub names : Grew old.names new.names
    pub slots : (t : ℕ) → Grew (pass some old t) (pass some new t)

  -- what it did
  abbrev pub share : Sitting C S NC NS → Sitting C S NC NS → Share C S NC NS
  share old new = record { names = between old.names new.names; slots = λ t. between (pass some old t) (pass some new t) }

  -- what it has seen
  abbrev pub seen_by : Sitting C S NC NS → Seen C NC
  seen_by desk = record { names = desk.names.seen; slots = λ t. (pass some desk t).seen }

module _ {C NC : Type 0} where
  -- whole histories, as far as a desk may see them
  abbrev pub whole : Histories C NC → Seen C NC
  whole all = record { names = all.names; slots = history_at all }

  -- these begin those
  pub record BeginsAll (seen later : Seen C NC) : Type 0 where
    pub names : Begins seen.names later.names
    pub slots : (t : ℕ) → Begins (seen.slots t) (later.slots t)

module _ {C S NC NS : Type 0} where
  -- the share lies in these histories, which may go on
  pub record LiesIn (s : Share C S NC NS) (seen : Seen C NC) : Type 0 where
    pub names : Lies s.names seen.names
    pub slots : (t : ℕ) → Lies (s.slots t) (seen.slots t)

-- What a claim on a share and a member must be, in histories: one that holds in them holds in longer ones too.
abbrev pub IsKept : {C S NC NS M : Type 0} → (Seen C NC → Share C S NC NS → M → Type 0) → Type 0
IsKept {C} {S} {NC} {NS} {M} Explains = (s : Share C S NC NS) (m : M) (seen later : Seen C NC) → BeginsAll seen later → Explains seen s m → Explains later s m

module _ {C S NC NS M : Type 0} (some : S) (Explains : Seen C NC → Share C S NC NS → M → Type 0) where
  -- these members, in order, are all for whom the desk was used, each explained with its share in what the desk has seen, and nothing is left
  pub record Serves (old new : Sitting C S NC NS) (members : List M) : Type 0 where
    pub shares : List (Share C S NC NS)
    pub grows : Grows some old new
    pub names : Divides (between old.names new.names) (map (λ (s : Share C S NC NS). s.names) shares)
    pub slots : (t : ℕ) → Divides (between (pass some old t) (pass some new t)) (map (λ (s : Share C S NC NS). s.slots t) shares)
    pub explained : AllZip (Explains (seen_by some new)) shares members
