-- How the journal of a table is opened.
use Rattle.std.specs.Prelude.{◌≡◌, ◌≢◌, ◌⊎◌, ℕ, Bool, true, false, List, [], ◌∷◌, ◌++◌, length, Option, Some, None, Result, Ok, Err}
use Rattle.std.specs.List.{AllByRecursion}
use Rattle.reql_disk.specs.Disk.{Past, Synced, seen}
use Rattle.reql_disk.specs.Calls.{grown}
use Rattle.reql_blocks.specs.Format.{content, Fits, StandsFor}
use Rattle.reql_blocks.specs.Held.{Rests}
use Rattle.reql_blocks.specs.Recovery.{Place, HasRead, IsDamaged}
use Rattle.reql_blocks.specs.Beginning.{Opens}
use Rattle.reql_blocks.specs.declared.recovery.OpenFault.{OpenFault}
use Rattle.reql_blocks.specs.declared.recovery.OpenFault.TheVariants as open_fault
use Rattle.reql_records.specs.Books.{Journal}
use Rattle.reql_table_records.specs.Standing.{Standing, after_body, stands}

-- Behind blocks of bodies that stand for a table, at this place, there is a whole open block whose body doesn't go on from that table.
pub record IsWrong (bytes : List ℕ) (place : ℕ) : Type 0 where
  pub bodies : List (List ℕ)
  pub body : List ℕ
  pub rest : List ℕ
  pub joined : bytes ≡ content (bodies ++ body ∷ []) ++ rest
  pub fit : AllByRecursion Fits (bodies ++ body ∷ [])
  pub at : place ≡ length (content bodies)
  pub table : Standing
  pub stand : stands bodies ≡ Some table
  pub wrong : after_body table body ≡ None

-- the bytes stand for no table, from this place on
abbrev pub IsNoTable : List ℕ → ℕ → Type 0
IsNoTable bytes place = IsDamaged bytes place ⊎ IsWrong bytes place

-- The blocks up to here stand for this table; or there is a fault.
pub record Stood (past : Past) (p : Place) (t : Standing) : Type 0 where
  pub bodies : List (List ℕ)
  pub read : HasRead bodies past p
  pub stand : stands bodies ≡ Some t

-- all blocks were read, and stand for this table
pub record StoodAll (past : Past) (p : Place) (t : Standing) : Type 0 where
  pub bodies : List (List ℕ)
  pub read : HasRead bodies past p
  pub stand : stands bodies ≡ Some t
  pub whole : StandsFor bodies (seen past)

-- the disk is as it was; and where it is damaged, its bytes stand for no table from that place on
abbrev pub FaultIs : Past → Place → OpenFault → Type 0
FaultIs past p (open_fault.Damaged place) = (p.told.past ≡ Some past) × IsNoTable (seen past) place
FaultIs past p open_fault.Failed = p.told.past ≡ Some past
FaultIs past p open_fault.Memory = p.told.past ≡ Some past

-- one block more was read, or the closed gate reached
abbrev pub ReadsNext : Past → Place → Standing → Result Bool OpenFault → Type 0
ReadsNext past p t (Ok true) = Stood past p t
ReadsNext past p t (Ok false) = StoodAll past p t
ReadsNext past p t (Err why) = FaultIs past p why

abbrev pub ReadsAll : Past → Place → Standing → Result (Unit {0}) OpenFault → Type 0
ReadsAll past p t (Ok done) = StoodAll past p t
ReadsAll past p t (Err why) = FaultIs past p why

-- The journal's disk holds bodies that stand for this table, whatever moment a crash comes at, and no record waits.
pub record OpensTable (now : Past) (j : Journal) (t : Standing) : Type 0 where
  pub bodies : List (List ℕ)
  pub rests : Rests bodies now j.held
  pub waiting : j.waiting ≡ []
  pub table : stands bodies ≡ Some t

-- an error leaves a file that isn't empty as it was, but that it may have been synced
abbrev pub RefusesTable : Past → Option Past → OpenFault → Type 0
RefusesTable past now (open_fault.Damaged place) = (p : Past) × (now ≡ Some p) × Opens past p × IsNoTable (seen p) place
RefusesTable past now open_fault.Failed = seen past ≢ [] → (now ≡ Some past) ⊎ (now ≡ Some (grown Synced past))
RefusesTable past now open_fault.Memory = seen past ≢ [] → (now ≡ Some past) ⊎ (now ≡ Some (grown Synced past))
