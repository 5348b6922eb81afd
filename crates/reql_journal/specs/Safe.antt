-- Crash safety: what is recovered after a crash.
use Rattle.std.specs.Prelude.{◌≡◌, ℕ, Bool, true, false, List, [], ◌∷◌, ◌++◌, map, Some, Ok, Err}
use Rattle.std.specs.List.{AllByRecursion}
use Rattle.reql_disk.specs.Disk.{Past, Left, Leaves}
use Rattle.reql_blocks.specs.Format.{StandsFor}
use Rattle.reql_records.specs.Books.{Journal}
use Rattle.reql_records.specs.Safe.{Between, Trusts}
use Rattle.reql_table_spec.specs.Machine.{State}
use Rattle.reql_table_spec.specs.declared.command.Order.{Order}
use Rattle.reql_table_spec.specs.declared.reply.Saved.{Saved}
use Rattle.reql_table_spec.specs.declared.reply.Saved.TheVariants as saved
use Rattle.reql_table_records.specs.Laws.{CanBeWritten}
use Rattle.reql_table_records.specs.Records.{Recorded, text_of}
use Rattle.reql_table_records.specs.Standing.{Standing, stands, after_records}
use Rattle.reql_journal.specs.Commands.{waits}
use Rattle.reql_journal.specs.Engines.{Keeps}
use Rattle.reql_journal.specs.Leading.{records_of_order}

-- From the table that was opened, these bytes lead on by a front of the records kept since, which holds all that are acknowledged: that is
-- the table that they stand for.
pub record Recovers (t : Standing) (acknowledged more : List Recorded) (bytes : List ℕ) : Type 0 where
  pub further : List Recorded
  pub lost : List Recorded
  pub split : more ≡ further ++ lost
  pub stand : (bodies : List (List ℕ)) → StandsFor bodies bytes → stands bodies ≡ after_records t (acknowledged ++ further)

-- rules out a crash that leaves bytes that read as another table
abbrev pub FrontsAreRecovered : Type 0
FrontsAreRecovered = (opened : List (List ℕ)) (t : Standing) (acknowledged more : List Recorded) (bytes : List ℕ) → stands opened ≡ Some t → AllByRecursion CanBeWritten (acknowledged ++ more)
    → Between opened (map text_of acknowledged) (map text_of (acknowledged ++ more)) bytes → Recovers t acknowledged more bytes

-- ---- a run of commands

-- A command that was put into the journal: in which state of the table, by whom, how it was answered, and the journal after it.
pub record Put : Type 0 where
  pub state : State
  pub by : ℕ
  pub order : Order
  pub is_saved : Saved
  pub after : Journal

abbrev pub put_records : Put → List Recorded
put_records p = records_of_order p.state p.by p.order

-- one after another, as an engine with a journal tells it of each
abbrev pub ArePut : Journal → List Put → Type 0
ArePut old [] = Unit {0}
ArePut old (p ∷ ps) = Keeps p.state old p.after p.by p.order p.is_saved × ArePut p.after ps

abbrev pub CanAllBeWritten : List Put → Type 0
CanAllBeWritten [] = Unit {0}
CanAllBeWritten (p ∷ ps) = AllByRecursion CanBeWritten (put_records p) × CanAllBeWritten ps

-- what is acknowledged and what is kept beyond that, once a command was answered: all of it where it waited for the disk and was saved
abbrev pub settled : Bool → Saved → List Recorded → List Recorded → List Recorded × List Recorded
settled true saved.Yes acknowledged more = (acknowledged ++ more, [])
settled true saved.Failed acknowledged more = (acknowledged, more)
settled true saved.Memory acknowledged more = (acknowledged, more)
settled false is_saved acknowledged more = (acknowledged, more)

-- Whatever moment a crash comes at, within a command or between two, what is then recovered is the table to which a front of the
-- records leads that were kept up to then, those of that command included, and this front holds all that was acknowledged before it.
abbrev pub AreSafe : Standing → List Recorded → List Recorded → Past → List Put → Type 0
AreSafe t acknowledged more past [] = (bytes : List ℕ) → Left past bytes → Recovers t acknowledged more bytes
AreSafe t acknowledged more past (p ∷ ps) =
    (mid : Past) × (p.after.held.told.past ≡ Some mid) × Leaves (Recovers t acknowledged (more ++ put_records p)) past mid
    × AreSafe t (settled (waits p.order.cmd) p.is_saved acknowledged (more ++ put_records p)).0 (settled (waits p.order.cmd) p.is_saved acknowledged (more ++ put_records p)).1 mid ps

abbrev pub CommandsAreSafe : Type 0
CommandsAreSafe = (opened : List (List ℕ)) (t : Standing) (past : Past) (old : Journal) (ps : List Put) → stands opened ≡ Some t → Trusts opened [] [] past old → ArePut old ps → CanAllBeWritten ps → AreSafe t [] [] past ps
