-- What a journal of records is, and what its calls come to.
use Rattle.std.specs.Prelude.{◌≡◌, ℕ, List, [], ◌++◌, map, Option, Some, None, Result, Ok, Err}
use Rattle.reql_disk.specs.Disk.{Past, Leaves}
use Rattle.reql_disk.specs.declared.disk.DiskFault.{DiskFault}
use Rattle.reql_blocks.specs.Held.{Held, Rests, Waits}
use Rattle.reql_records.specs.Bodies.{Text, body_of, joined, Stands}

-- its blocks, the records that wait, and for how many more there is room
pub record Journal : Type 0 where
  pub held : Held
  pub waiting : List Text
  pub room : ℕ

-- The bodies that were there when the file was opened, and where each record since is: in open blocks, in a block whose gate isn't known to be open, or in memory alone.
pub record Books : Type 0 where
  pub opened : List (List ℕ)
  pub groups : List (List Text)
  pub staged : Option (List Text)
  pub waiting : List Text

abbrev pub staged_of : Option (List Text) → List Text
staged_of None = []
staged_of (Some texts) = texts

-- those that every crash leaves, and those that a crash may lose
abbrev pub sure : Books → List Text
sure b = joined b.groups

abbrev pub loose : Books → List Text
loose b = staged_of b.staged ++ b.waiting

abbrev pub BlocksKeep : List (List ℕ) → List (List Text) → Option (List Text) → Past → Held → Type 0
BlocksKeep opened groups None past held = Rests (opened ++ map body_of groups) past held
BlocksKeep opened groups (Some texts) past held =
    Waits (opened ++ map body_of groups) (body_of texts) past held

-- the books are true
pub record Keeps (b : Books) (past : Past) (j : Journal) : Type 0 where
  pub blocks : BlocksKeep b.opened b.groups b.staged past j.held
  pub waiting : j.waiting ≡ b.waiting

-- These bytes stand for the records that are sure and the first of those that aren't, in order.
pub record MayStand (b : Books) (bytes : List ℕ) : Type 0 where
  pub front : List Text
  pub back : List Text
  pub split : loose b ≡ front ++ back
  pub stands : Stands b.opened (sure b ++ front) bytes

abbrev pub IsDone : Books → Result (Unit {0}) DiskFault → Type 0
IsDone b (Ok done) = loose b ≡ []
IsDone b (Err why) = Unit {0}

-- A flush: whatever moment a crash comes at, it leaves the records that were sure and the first of the others. None is lost, in any
-- case, what was sure stays so, and where it answers Ok all are sure.
pub record Flushes (before : Books) (old : Past) (j : Journal) (result : Result (Unit {0}) DiskFault) : Type 0 where
  pub after : Books
  pub new : Past
  pub keeps : Keeps after new j
  pub leaves : Leaves (MayStand before) old new
  pub same : after.opened ≡ before.opened
  pub none_lost : sure after ++ loose after ≡ sure before ++ loose before
  pub further : List Text
  pub still_sure : sure after ≡ sure before ++ further
  pub done : IsDone after result
