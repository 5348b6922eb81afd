-- Files in memory: the disk that each name has, how many calls there were, and which of these, from 0, fail.
use Rattle.std.specs.Prelude.{◌≡◌, ◌&&◌, ℕ, Bool, true, List, [], ◌∷◌, Option, Some, None, cond}
use Rattle.std.specs.Str.{bytes_eq}
use Rattle.reql_outside.specs.Source.{is_sound}
use Rattle.reql_disk.specs.Disk.{seen}
use Rattle.reql_disk.specs.Files.{FilesTold}
use Rattle.reql_disk.specs.Memory.{Memory}

abbrev pub Named : Type 0
Named = List ℕ × Memory

pub record Folder : Type 0 where
  pub files : List Named
  pub calls : ℕ
  pub fails : List ℕ
  pub faults : ℕ
  pub sound : Bool

-- the disk of the first file of a name, if there is one
abbrev pub disk_of : List ℕ → List Named → Option Memory
disk_of name [] = None
disk_of name (f ∷ files) = cond (bytes_eq f.0 name) (Some f.1) (disk_of name files)

-- the files without that one
abbrev pub without : List ℕ → List Named → List Named
without name [] = []
without name (f ∷ files) = cond (bytes_eq f.0 name) files (f ∷ without name files)

-- what a read gives of a file, and of none nothing
abbrev pub bytes_of : Option Memory → List ℕ
bytes_of None = []
bytes_of (Some m) = seen m.past

abbrev pub all_sound : List Named → Bool
all_sound [] = true
all_sound (f ∷ files) = is_sound f.1.fails && all_sound files

abbrev pub told_of_files : Folder → FilesTold
told_of_files f = record { bytes = λ name. Some (bytes_of (disk_of name f.files)); faults = f.faults; sound = f.sound }

-- one that is sound has nothing that fails
pub record SoundHolds (f : Folder) : Type 0 where
  pub calls : f.sound ≡ true → is_sound f.fails ≡ true
  pub files : f.sound ≡ true → all_sound f.files ≡ true
