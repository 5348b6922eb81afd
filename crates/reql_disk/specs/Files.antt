-- What a folder of files tells of itself, and what opening one is to that.
use Rattle.std.specs.Prelude.{◌≡◌, ◌≢◌, ℕ, Bool, true, false, List, Option, Some, Result, Ok, Err}
use Rattle.reql_outside.specs.Tape.{counted}
use Rattle.reql_disk.specs.Disk.{Past, seen}
use Rattle.reql_disk.specs.Calls.{Told}
use Rattle.reql_disk.specs.declared.disk.DiskFault.{DiskFault}
use Rattle.reql_disk.specs.declared.disk.DiskFault.TheVariants as fault

-- What the file of a name holds, where that is told, and nothing where there is none; how often opening failed, and whether neither it
-- nor a disk that it gives ever fails, which no call changes.
pub record FilesTold : Type 0 where
  pub bytes : List ℕ → Option (List ℕ)
  pub faults : ℕ
  pub sound : Bool

-- a disk that tells what it was, and reads as these bytes
abbrev pub ReadsAs : List ℕ → Told → Type 0
ReadsAs bytes disk = (past : Past) × (disk.past ≡ Some past) × (seen past ≡ bytes)

-- The disk of a name was opened: it reads as was told of the name, and what is told of other names stays.
pub record Gives (old new : FilesTold) (name : List ℕ) (disk : Told) : Type 0 where
  pub reads : (bytes : List ℕ) → old.bytes name ≡ Some bytes → ReadsAs bytes disk
  pub others : (other : List ℕ) → other ≢ name → new.bytes other ≡ old.bytes other
  pub disk_sound : old.sound ≡ true → disk.sound ≡ true
  pub faults : new.faults ≡ old.faults
  pub sound : new.sound ≡ old.sound

abbrev pub OpensFile : FilesTold → FilesTold → List ℕ → Result Told DiskFault → Type 0
OpensFile old new name (Ok disk) = Gives old new name disk
OpensFile old new name (Err fault.Failed) = (old.sound ≡ false) × (new ≡ record old { faults = counted old.faults 1 })
OpensFile old new name (Err fault.Memory) = new ≡ old
