-- What contracts see of a hall, of its desks and of its end.
use Rattle.std.specs.Prelude.{◌≡◌, ℕ, List, [], ◌∷◌, ◌++◌, map, slice_index_or, All, Option, Some}
use Rattle.std.specs.List.{range_with_len}
use Rattle.reql_shared.specs.declared.recorded.Recorded.{Recorded}
use Rattle.reql_shared.specs.Machine.{Machine, replay}
use Rattle.reql_shared.specs.Sight.{Object, Sight, Closing, unused, Learns}

-- A hall: the shared engine of the names and that of each slot.
pub record Rooms (S NS : Type 0) : Type 0 where
  pub names : Object NS
  pub slots : List (Object S)

-- A desk: its pass for the names and that for each slot.
pub record Sitting (C S NC NS : Type 0) : Type 0 where
  pub names : Sight NC NS
  pub slots : List (Sight C S)

-- The end of a hall: its engines with their histories, and its desks.
pub record Closed (E C S NE NC NS : Type 0) : Type 0 where
  pub names : Closing NE NC NS
  pub slots : List (Closing E C S)
  pub desks : List (Sitting C S NC NS)

-- The whole histories of a hall: that of the names and that of each slot.
pub record Histories (C NC : Type 0) : Type 0 where
  pub names : List (Recorded NC)
  pub slots : List (List (Recorded C))

module _ {C S NC NS : Type 0} where
  -- the desk is one of this hall, and all its passes have one number
  pub record Sits (hall : Rooms S NS) (desk : Sitting C S NC NS) : Type 0 where
    pub names : desk.names.object ≡ hall.names
    pub slots : map (λ (p : Sight C S). p.object) desk.slots ≡ hall.slots
    pub numbers : All (λ (p : Sight C S). p.number ≡ desk.names.number) desk.slots

  -- what stands for the pass of a slot that isn't there, with some state or other
  abbrev pub nobody : S → Sitting C S NC NS → Sight C S
  nobody some desk = unused (record { id = desk.names.object.id; start = some; passes = desk.names.object.passes }) desk.names.number

  -- the desk's pass on a slot
  abbrev pub pass : S → Sitting C S NC NS → ℕ → Sight C S
  pass some desk t = slice_index_or desk.slots t (nobody some desk)

  -- the desk of this number, which has seen nothing
  abbrev pub unused_desk : Rooms S NS → ℕ → Sitting C S NC NS
  unused_desk hall number = record { names = unused hall.names number; slots = map (λ (o : Object S). unused o number) hall.slots }

  -- the desks of a hall that nobody has used, numbered from 0
  abbrev pub unused_desks : Rooms S NS → List (Sitting C S NC NS)
  unused_desks hall = map (unused_desk hall) (range_with_len 0 hall.names.passes)

  -- a desk with one more pass
  abbrev pub with_more : Sitting C S NC NS → Sight C S → Sitting C S NC NS
  with_more desk p = record { names = desk.names; slots = desk.slots ++ p ∷ [] }

module _ {C NC : Type 0} where
  -- the history of a slot, and none where there is no such slot
  abbrev pub history_at : Histories C NC → ℕ → List (Recorded C)
  history_at all t = slice_index_or all.slots t []

module _ {E C S NE NC NS : Type 0} where
  -- what a closed hall was
  abbrev pub rooms_of : Closed E C S NE NC NS → Rooms S NS
  rooms_of hall = record { names = hall.names.object; slots = map (λ (f : Closing E C S). f.object) hall.slots }

  abbrev pub histories_of : Closed E C S NE NC NS → Histories C NC
  histories_of hall = record { names = hall.names.history; slots = map (λ (f : Closing E C S). f.history) hall.slots }

module _ {C S NC NS : Type 0} where
  -- the desk has seen these whole histories, of which it had seen beginnings; its own entries and its marks are as before
  pub record LearnsAll (old new : Sitting C S NC NS) (all : Histories C NC) : Type 0 where
    pub names : Learns old.names new.names all.names
    pub slots : (some : S) (t : ℕ) → Learns (pass some old t) (pass some new t) (history_at all t)

module _ {S C R Q A E X : Type 0} (machine : Machine S C R Q A) (state : E → S) (tells : E → E → ℕ → C → Option X → Type 0) where
  -- what an engine tells of this command of the pass, beside what its machine says: of the engine as some history leads to it
  abbrev pub Tells : Sight C S → C → X → Type 0
  Tells pass cmd reply = (before : List (Recorded C)) × (old new : E) × (state old ≡ replay machine pass.object.start before) × tells old new pass.number cmd (Some reply)
