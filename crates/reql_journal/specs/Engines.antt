-- An engine with a journal: what contracts see of it, and what it tells of a command.
use Rattle.std.specs.Prelude.{◌≡◌, ℕ, ◌+◌, ◌-◌, ◌^◌, ◌<◌, min, List, map, Bool, true, false, Option, Some, None, option_to_list, option_map, Result, Ok, Err}
use Rattle.reql_disk.specs.declared.disk.DiskFault.{DiskFault}
use Rattle.reql_disk.specs.declared.disk.DiskFault.TheVariants as fault
use Rattle.reql_blocks.specs.Held.{Counts}
use Rattle.reql_records.specs.Bodies.{Text}
use Rattle.reql_records.specs.Books.{Journal}
use Rattle.reql_records.specs.Safe.{Answer, Saves}
use Rattle.reql_table_machine_spec.specs.Fed.{changes_at}
use Rattle.reql_table_spec.specs.Machine.{State, known_cmd, reply, after, is_recorded}
use Rattle.reql_table_spec.specs.Replies.{Answered}
use Rattle.reql_table_spec.specs.Table.{feeding, at_key}
use Rattle.reql_table_spec.specs.declared.command.Order.{Order}
use Rattle.reql_table_spec.specs.declared.reply.Reply.{Reply}
use Rattle.reql_table_spec.specs.declared.reply.Saved.{Saved}
use Rattle.reql_table_spec.specs.declared.reply.Saved.TheVariants as saved
use Rattle.reql_table_records.specs.Records.{Change, Recorded, text_of}
use Rattle.reql_journal.specs.Commands.{waits, IsWritten, of_command}

pub record Both (E : Type 0) : Type 0 where
  pub engine : E
  pub journal : Option Journal

-- the engine's state; where there is a journal, it is its disk that may fail
abbrev pub stated : State → Option Journal → State
stated s None = record s { journaled = false }
stated s (Some j) = record s { sound = j.held.told.sound; journaled = true }

abbrev pub state_of : {E : Type 0} → (E → State) → Both E → State
state_of state b = stated (state b.engine) b.journal

-- how often the disk failed, up to the last number of a u64
abbrev pub counted_faults : ℕ → Option Journal → ℕ
counted_faults n None = n
counted_faults n (Some j) = min j.held.told.faults (2 ^ 64 - 1)

abbrev pub faults_of : {E : Type 0} → (E → ℕ) → Both E → ℕ
faults_of faults b = counted_faults (faults b.engine) b.journal

abbrev pub saved_of : Answer → Saved
saved_of (Ok done) = saved.Yes
saved_of (Err fault.Failed) = saved.Failed
saved_of (Err fault.Memory) = saved.Memory

-- the changes that a command makes of a table in this state
abbrev pub changes_of : State → ℕ → Order → List Change
changes_of s by o = map at_key (changes_at (feeding s.most) s.table by (known_cmd o.cmd))

-- the record of a command on a table in this state, if it has one
abbrev pub record_of_order : State → ℕ → Order → Option Recorded
record_of_order s by o = of_command o.cmd (reply s by o).said (changes_of s by o)

abbrev pub texts_of : Option Recorded → List Text
texts_of r = map text_of (option_to_list r)

-- What an engine answers a command, and what state that leaves.
pub record Answers (s u : State) (by : ℕ) (o : Order) (r : Answered) : Type 0 where
  pub replies : r ≡ reply s by o
  pub recorded : is_recorded r ≡ true → u ≡ after s by o
  pub counted : is_recorded r ≡ true → u.table.place ≡ s.table.place + 1
  pub room : is_recorded r ≡ true → s.table.place + 1 < 2 ^ 64
  pub same : is_recorded r ≡ false → u ≡ s

-- A command was put into the journal: its record, if it has one, was added to those that wait, and where it waits for the disk all were
-- made safe, as its answer tells.
pub record Keeps (s : State) (before after : Journal) (by : ℕ) (o : Order) (is_saved : Saved) : Type 0 where
  pub answer : Answer
  pub says : is_saved ≡ saved_of answer
  pub written : IsWritten o.cmd
  pub counts : Counts before.held.told after.held.told answer
  pub saves : Saves (texts_of (record_of_order s by o)) (waits o.cmd) before after answer

-- With want of memory nothing was put into the journal.
pub record Refuses (before after : Journal) : Type 0 where
  pub held : after.held ≡ before.held
  pub waiting : after.waiting ≡ before.waiting

module _ {E : Type 0} (tells : E → E → ℕ → Order → Option Reply → Type 0) (state : E → State) where
  -- the engine answered the command so, but for whether it was saved, and its last changes were taken
  pub record Ran (old new : E) (by : ℕ) (o : Order) (r : Reply) : Type 0 where
    pub mid : E
    pub reply : Reply
    pub told : tells old mid by o (Some reply)
    pub same : r ≡ record reply { saved = r.saved }
    pub rested : state new ≡ state mid

  -- What is told of a command: with a journal, what the engine tells of it, and what was put into the journal.
  abbrev pub TellsBy : E → E → Option Journal → Option Journal → ℕ → Order → Option Reply → Type 0
  TellsBy old new None None by o r = tells old new by o r
  TellsBy old new (Some before) (Some after) by o None = Refuses before after
  TellsBy old new (Some before) (Some after) by o (Some r) = Ran old new by o r × Keeps (state old) before after by o r.saved
  TellsBy old new None (Some after) by o r = ⊥
  TellsBy old new (Some before) None by o r = ⊥

  abbrev pub Tells : Both E → Both E → ℕ → Order → Option Reply → Type 0
  Tells old new by o r = TellsBy old.engine new.engine old.journal new.journal by o r
