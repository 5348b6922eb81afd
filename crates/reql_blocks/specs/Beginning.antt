-- How a file of blocks is opened.
use Rattle.std.specs.Prelude.{◌≡◌, ◌≢◌, ◌⊎◌, ℕ, List, [], ◌∷◌, ◌++◌, length, Option, Some, Result, Ok, Err}
use Rattle.reql_disk.specs.Disk.{Past, Synced, seen, Holds}
use Rattle.reql_disk.specs.Calls.{grown}
use Rattle.reql_blocks.specs.Format.{magic}
use Rattle.reql_blocks.specs.Recovery.{IsDamaged}
use Rattle.reql_blocks.specs.declared.recovery.OpenFault.{OpenFault}
use Rattle.reql_blocks.specs.declared.recovery.OpenFault.TheVariants as open_fault

-- a file with no block
abbrev pub blank : List ℕ
blank = magic ++ 0 ∷ []

abbrev pub NoMagic : List ℕ → Type 0
NoMagic bytes = (rest : List ℕ) → bytes ≡ magic ++ rest → ⊥

-- What the bytes that were there are to those that are there once the file is begun: an empty file is made one with no block, and
-- any other stays.
pub record HasBegun (past now : Past) (size : ℕ) : Type 0 where
  pub fresh : seen past ≡ [] → seen now ≡ blank
  pub same : seen past ≢ [] → now ≡ past
  pub size_is : size ≡ length (seen now)
  pub rest : List ℕ
  pub joined : seen now ≡ magic ++ rest
  pub safe : Holds (λ bytes. bytes ≡ seen now) now

-- how a file begins that is safe as it is
abbrev pub Begins : Past → Option Past → Result ℕ OpenFault → Type 0
Begins past now (Ok size) = (p : Past) × (now ≡ Some p) × HasBegun past p size
Begins past now (Err (open_fault.Damaged place)) = (now ≡ Some past) × (seen past ≢ []) × NoMagic (seen past) × (place ≡ 0)
Begins past now (Err open_fault.Failed) = seen past ≢ [] → now ≡ Some past
Begins past now (Err open_fault.Memory) = seen past ≢ [] → now ≡ Some past

-- Of a file that isn't empty nothing is changed but that it was synced.
pub record Opens (past now : Past) : Type 0 where
  pub fresh : seen past ≡ [] → seen now ≡ blank
  pub same : seen past ≢ [] → now ≡ grown Synced past

abbrev pub Refuses : Past → Option Past → OpenFault → Type 0
Refuses past now (open_fault.Damaged place) = (now ≡ Some (grown Synced past)) × (seen past ≢ []) × IsDamaged (seen past) place
Refuses past now open_fault.Failed = seen past ≢ [] → (now ≡ Some past) ⊎ (now ≡ Some (grown Synced past))
Refuses past now open_fault.Memory = seen past ≢ [] → (now ≡ Some past) ⊎ (now ≡ Some (grown Synced past))

-- what is read of a file's head
abbrev pub HeadIs : Result ℕ OpenFault → List ℕ → Type 0
HeadIs (Ok size) bytes = (rest : List ℕ) × (bytes ≡ magic ++ rest)
HeadIs (Err (open_fault.Damaged place)) bytes = NoMagic bytes × (place ≡ 0)
HeadIs (Err open_fault.Failed) bytes = Unit {0}
HeadIs (Err open_fault.Memory) bytes = Unit {0}
