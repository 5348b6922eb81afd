-- Crash safety of a journal that is given a record, or none, at a time: what each call does to it, and the promise over all.
use Rattle.std.specs.Prelude.{◌≡◌, ℕ, Bool, true, false, List, [], ◌∷◌, ◌++◌, map, Some, Result, Ok, Err}
use Rattle.reql_disk.specs.Disk.{Past, Leaves, Left}
use Rattle.reql_disk.specs.declared.disk.DiskFault.{DiskFault}
use Rattle.reql_blocks.specs.Format.{StandsFor}
use Rattle.reql_blocks.specs.Held.{Rests}
use Rattle.reql_records.specs.Bodies.{Text, Stands, body_of, joined}
use Rattle.reql_records.specs.Books.{Journal, Books, sure, loose, Keeps, MayStand}

-- what a call answers
abbrev pub Answer : Type 0
Answer = Result (Unit {0}) DiskFault

abbrev pub with_texts : Books → List Text → Books
with_texts b texts =
    record { opened = b.opened; groups = b.groups; staged = b.staged; waiting = b.waiting ++ texts }

-- where a call that waits for the disk answers Ok, all is sure
abbrev pub IsSure : Bool → Answer → Books → Type 0
IsSure true (Ok done) b = loose b ≡ []
IsSure true (Err why) b = Unit {0}
IsSure false answer b = Unit {0}

-- From the books before a call that is given these records: whatever moment a crash comes at, it leaves the records that were sure, and
-- the first of those that weren't and of these. None is lost, and where the call waits for the disk and answers Ok, all are sure.
pub record Applies (before : Books) (texts : List Text) (waits : Bool) (old : Past) (j : Journal) (answer : Answer) : Type 0 where
  pub after : Books
  pub new : Past
  pub keeps : Keeps after new j
  pub leaves : Leaves (MayStand (with_texts before texts)) old new
  pub same : after.opened ≡ before.opened
  pub none_lost : sure after ++ loose after ≡ sure before ++ loose (with_texts before texts)
  pub further : List Text
  pub still_sure : sure after ≡ sure before ++ further
  pub done : IsSure waits answer after

abbrev pub Saves : List Text → Bool → Journal → Journal → Answer → Type 0
Saves texts waits old new answer = (b : Books) (past : Past) → Keeps b past old → Applies b texts waits past new answer

-- ---- the promise
-- These bytes stand for what was there when the file was opened, and then for a prefix of what was kept since that holds all that was
-- acknowledged.
pub record Between (opened : List (List ℕ)) (acknowledged kept : List Text) (bytes : List ℕ) : Type 0 where
  pub further : List Text
  pub lost : List Text
  pub split : kept ≡ acknowledged ++ (further ++ lost)
  pub stands : Stands opened (acknowledged ++ further) bytes

-- The journal, whose file had these bodies when it was opened, has kept these records since, of which the first are acknowledged.
pub record Trusts (opened : List (List ℕ)) (acknowledged kept : List Text) (past : Past) (j : Journal) : Type 0 where
  pub books : Books
  pub keeps : Keeps books past j
  pub same : books.opened ≡ opened
  pub all : sure books ++ loose books ≡ kept
  pub more : List Text
  pub first : sure books ≡ acknowledged ++ more

-- A call with these records, whether it waits for the disk, what it answered, and the journal after it.
pub record Did : Type 0 where
  pub texts : List Text
  pub waits : Bool
  pub answer : Answer
  pub after : Journal

-- what is acknowledged after a call, of what is kept then
abbrev pub acknowledges : Bool → Answer → List Text → List Text → List Text
acknowledges true (Ok done) acknowledged kept = kept
acknowledges true (Err why) acknowledged kept = acknowledged
acknowledges false answer acknowledged kept = acknowledged

-- Calls one after another, each of which did to the journal what it is answered to have done.
abbrev pub Ran : Journal → List Did → Type 0
Ran old [] = Unit {0}
Ran old (d ∷ ds) = Saves d.texts d.waits old d.after d.answer × Ran d.after ds

-- Whatever moment a crash comes at, within a call or between two, it leaves a prefix of what was kept up to then, with the records
-- of that call, and this prefix holds all that was acknowledged before it.
abbrev pub CrashSafe : List (List ℕ) → List Text → List Text → Past → List Did → Type 0
CrashSafe opened acknowledged kept past [] = (image : List ℕ) → Left past image → Between opened acknowledged kept image
CrashSafe opened acknowledged kept past (d ∷ ds) =
    (mid : Past) × (d.after.held.told.past ≡ Some mid) × Leaves (Between opened acknowledged (kept ++ d.texts)) past mid
    × CrashSafe opened (acknowledges d.waits d.answer acknowledged (kept ++ d.texts)) (kept ++ d.texts) mid ds

-- ---- its laws
-- A journal whose disk holds these bodies and no more, and in which no record waits, is trusted, and has kept nothing since.
abbrev pub OpenedIsTrusted : Type 0
OpenedIsTrusted = (bodies : List (List ℕ)) (past : Past) (j : Journal) → Rests bodies past j.held → j.waiting ≡ [] → Trusts bodies [] [] past j

abbrev pub RunsAreSafe : Type 0
RunsAreSafe = (opened : List (List ℕ)) (acknowledged kept : List Text) (past : Past) (old : Journal) (calls : List Did) → Trusts opened acknowledged kept past old → Ran old calls → CrashSafe opened acknowledged kept past calls

-- What is read of bytes that stand for some bodies and records is just those.
abbrev pub JustTheseAreRead : Type 0
JustTheseAreRead = (opened : List (List ℕ)) (texts : List Text) (bodies : List (List ℕ)) (bytes : List ℕ) → Stands opened texts bytes → StandsFor bodies bytes → (groups : List (List Text)) × (bodies ≡ opened ++ map body_of groups) × (texts ≡ joined groups)
