-- What is read of a file of blocks, and where it isn't of the format.
use Rattle.std.specs.Prelude.{◌≡◌, ◌≢◌, ◌⊎◌, ℕ, ◌+◌, ◌≤◌, false, List, [], ◌∷◌, ◌++◌, length, drop, Option, Some, None, Result, Ok, Err, Vec, vec_items}
use Rattle.std.specs.List.{AllByRecursion}
use Rattle.std.specs.declared.alloc.Global.{Global}
use Rattle.reql_outside.specs.Tape.{counted}
use Rattle.reql_disk.specs.Disk.{Past, seen, Holds}
use Rattle.reql_disk.specs.Calls.{Told, OfSeen, DoesNothing}
use Rattle.reql_disk.specs.declared.disk.DiskFault.{DiskFault}
use Rattle.reql_blocks.specs.Format.{magic, behind, content, Fits, StandsFor}
use Rattle.reql_blocks.specs.declared.recovery.OpenFault.{OpenFault}
use Rattle.reql_blocks.specs.declared.recovery.OpenFault.TheVariants as open_fault

-- no whole block follows an open gate in these bytes
abbrev pub NoBlock : List ℕ → Type 0
NoBlock bytes = (body rest : List ℕ) → Fits body → bytes ≡ behind body ++ rest → ⊥

-- at the end of the bytes, or at an open gate with no whole block
abbrev pub NoGate : List ℕ → Type 0
NoGate bytes = (bytes ≡ []) ⊎ ((more : List ℕ) × (bytes ≡ 1 ∷ more) × NoBlock more)

-- Behind blocks of some bodies, at this place, there is no gate, or an open one with no whole block behind it.
pub record IsCut (bytes : List ℕ) (place : ℕ) : Type 0 where
  pub bodies : List (List ℕ)
  pub rest : List ℕ
  pub joined : bytes ≡ content bodies ++ rest
  pub fit : AllByRecursion Fits bodies
  pub at : place ≡ length (content bodies)
  pub none : NoGate rest

-- The bytes aren't of the format: at 0 where they don't begin as such a file does, else at the gate of the first block that isn't.
abbrev pub IsDamaged : List ℕ → ℕ → Type 0
IsDamaged bytes place = (((rest : List ℕ) → bytes ≡ magic ++ rest → ⊥) × (place ≡ 0)) ⊎ IsCut bytes place

-- a call that only looks
abbrev pub Looks : {T : Type 0} → Told → Told → Result T DiskFault → Type 0
Looks old new (Ok x) = new ≡ old
Looks old new (Err why) = DoesNothing old new why

-- what a reader is: what its disk tells, the place of the gate to come, and the file's size
pub record Place : Type 0 where
  pub told : Told
  pub gate : ℕ
  pub size : ℕ

-- the file is as long as the size, which the gate's place isn't past
pub record PlaceLies (p : Place) : Type 0 where
  pub size : OfSeen (λ bytes. p.size ≡ length bytes) p.told.past
  pub gate : p.gate ≤ p.size

-- The reader has read these bodies, and has more to read; a crash leaves what a read gives.
pub record HasRead (bodies : List (List ℕ)) (past : Past) (p : Place) : Type 0 where
  pub told : p.told.past ≡ Some past
  pub gate : p.gate ≡ length (content bodies)
  pub rest : List ℕ
  pub joined : seen past ≡ content bodies ++ rest
  pub fit : AllByRecursion Fits bodies
  pub safe : Holds (λ bytes. bytes ≡ seen past) past

-- what the next read comes to
abbrev pub NextIs : List (List ℕ) → Past → Place → Result (Option (Vec ℕ Global)) OpenFault → Type 0
NextIs bodies past p (Ok (Some body)) = HasRead (bodies ++ vec_items body ∷ []) past p
NextIs bodies past p (Ok None) = HasRead bodies past p × StandsFor bodies (seen past)
NextIs bodies past p (Err (open_fault.Damaged place)) = IsDamaged (seen past) place
NextIs bodies past p (Err open_fault.Failed) = HasRead bodies past p
NextIs bodies past p (Err open_fault.Memory) = HasRead bodies past p

-- at a place: a whole block behind an open gate; a closed gate; neither
pub record BlockAt (place : ℕ) (body bytes : List ℕ) : Type 0 where
  pub rest : List ℕ
  pub there : drop place bytes ≡ 1 ∷ (behind body ++ rest)
  pub fits : Fits body

pub record ClosedAt (place : ℕ) (bytes : List ℕ) : Type 0 where
  pub gate : ℕ
  pub rest : List ℕ
  pub there : drop place bytes ≡ gate ∷ rest
  pub closed : gate ≢ 1

abbrev pub ReadsAt : ℕ → Result (Option (Vec ℕ Global)) OpenFault → List ℕ → Type 0
ReadsAt place (Ok (Some body)) bytes = BlockAt place (vec_items body) bytes
ReadsAt place (Ok None) bytes = ClosedAt place bytes
ReadsAt place (Err (open_fault.Damaged at)) bytes = (at ≡ place) × NoGate (drop place bytes)
ReadsAt place (Err open_fault.Failed) bytes = Unit {0}
ReadsAt place (Err open_fault.Memory) bytes = Unit {0}

-- a body that was read from a place ends within the size, and so does a closed gate
abbrev pub EndsIn : ℕ → ℕ → Result (Option (Vec ℕ Global)) OpenFault → Type 0
EndsIn size place (Ok (Some body)) = place + 9 + length (vec_items body) ≤ size
EndsIn size place (Ok None) = place + 1 ≤ size
EndsIn size place (Err why) = Unit {0}

-- a fault that is the disk's is counted there
abbrev pub Counted : {T : Type 0} → Told → Told → Result T OpenFault → Type 0
Counted old new (Ok x) = (new.faults ≡ old.faults) × (new.sound ≡ old.sound)
Counted old new (Err open_fault.Failed) = (old.sound ≡ false) × (new.faults ≡ counted old.faults 1) × (new.sound ≡ old.sound)
Counted old new (Err open_fault.Memory) = (new.faults ≡ old.faults) × (new.sound ≡ old.sound)
Counted old new (Err (open_fault.Damaged place)) = (new.faults ≡ old.faults) × (new.sound ≡ old.sound)
