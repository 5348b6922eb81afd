-- What the calls of a disk are to what it tells of itself.
use Rattle.std.specs.Prelude.{◌≡◌, ℕ, ◌≤◌, Bool, false, List, ◌∷◌, length, take, drop, Option, Some, None, Result, Ok, Err}
use Rattle.reql_outside.specs.Tape.{counted}
use Rattle.reql_disk.specs.Disk.{Step, Wrote, Synced, Past, seen, Holds, Leaves}
use Rattle.reql_disk.specs.declared.disk.DiskFault.{DiskFault}
use Rattle.reql_disk.specs.declared.disk.DiskFault.TheVariants as fault

-- its past, where it tells that, how often it failed, and whether it never fails, which no call changes
pub record Told : Type 0 where
  pub past : Option Past
  pub faults : ℕ
  pub sound : Bool

abbrev pub failed : Told → Told
failed told = record told { faults = counted told.faults 1 }

abbrev pub grown : Step → Past → Past
grown step past = record { first = past.first; steps = step ∷ past.steps }

-- with one more step, where it tells of them
abbrev pub with_step : Step → Option Past → Option Past
with_step step None = None
with_step step (Some past) = Some (grown step past)

abbrev pub stepped : Step → Told → Told
stepped step told = record told { past = with_step step told.past }

-- a call that changed nothing but the count, if it failed
abbrev pub DoesNothing : Told → Told → DiskFault → Type 0
DoesNothing old new fault.Failed = (old.sound ≡ false) × (new ≡ failed old)
DoesNothing old new fault.Memory = new ≡ old

-- what holds of the bytes that a read gives, where they are told
abbrev pub OfSeen : (List ℕ → Type 0) → Option Past → Type 0
OfSeen P None = Unit {0}
OfSeen P (Some past) = P (seen past)

abbrev pub Measures : Told → Told → Result ℕ DiskFault → Type 0
Measures old new (Ok size) = (new ≡ old) × OfSeen (λ bytes. size ≡ length bytes) old.past
Measures old new (Err why) = DoesNothing old new why

abbrev pub Reads : Told → Told → ℕ → List ℕ → Result (Unit {0}) DiskFault → Type 0
Reads old new place buf (Ok done) = (new ≡ old) × OfSeen (λ bytes. buf ≡ take (length buf) (drop place bytes)) old.past
Reads old new place buf (Err why) = DoesNothing old new why

-- A write that failed leaves any bytes in its range. One that finds no memory, as one that would end above 2^64 - 1, changes nothing.
abbrev pub Writes : Told → Told → ℕ → List ℕ → Result (Unit {0}) DiskFault → Type 0
Writes old new place piece (Ok done) = new ≡ stepped (Wrote place (length piece) piece) old
Writes old new place piece (Err fault.Failed) = (old.sound ≡ false) × (left : List ℕ) × (length left ≤ length piece) × (new ≡ stepped (Wrote place (length piece) left) (failed old))
Writes old new place piece (Err fault.Memory) = new ≡ old

-- a write that would end above 2^64 - 1
abbrev pub IsRefused : Told → Told → Result (Unit {0}) DiskFault → Type 0
IsRefused old new result = (result ≡ Err fault.Memory) × (new ≡ old)

abbrev pub Syncs : Told → Told → Result (Unit {0}) DiskFault → Type 0
Syncs old new (Ok done) = new ≡ stepped Synced old
Syncs old new (Err why) = DoesNothing old new why

-- A disk that had this past: whatever moment since a crash comes at, what it leaves has P, and what a read gives and a crash leaves now has Q.
pub record Going (P Q : List ℕ → Type 0) (past : Past) (told : Told) : Type 0 where
  pub now : Past
  pub told_now : told.past ≡ Some now
  pub leaves : Leaves P past now
  pub holds : Holds Q now
