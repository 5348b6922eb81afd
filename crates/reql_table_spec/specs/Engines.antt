-- What engines of tables keep beside the machine.
use Rattle.std.specs.Prelude.{◌≡◌, ◌<◌, ◌≤◌, ℕ, ◌-◌, ◌^◌, ◌⊎◌, List, map, Bool, false, Option, Some, None, option_map}
use Rattle.reql_datum.specs.Plain.{Plain}
use Rattle.reql_datum.specs.View.{plain}
use Rattle.reql_rules.specs.Lists.{Bytes}
use Rattle.reql_term.specs.Views.{Document, Entry}
use Rattle.reql_value_spec.specs.Index.{index_lists}
use Rattle.reql_table_machine_spec.specs.Fed.{changes_at}
use Rattle.reql_table_machine_spec.specs.declared.command.Look.{Look}
use Rattle.reql_table_spec.specs.Indexes.{Indexes}
use Rattle.reql_table_spec.specs.Machine.{State, Seen, known_cmd}
use Rattle.reql_table_spec.specs.Replies.{Answered, told_of}
use Rattle.reql_table_spec.specs.Table.{feeding, at_key}
use Rattle.reql_table_spec.specs.declared.command.Order.{Order}
use Rattle.reql_table_spec.specs.declared.engine.Kept.{Kept}
use Rattle.reql_table_spec.specs.declared.reply.Reply.{Reply}
use Rattle.reql_table_spec.specs.declared.reply.Saved.TheVariants.{Failed}

-- a reply tells what the machine says, and beside it whether it was saved
abbrev pub TellsAll : (Reply → Answered) → Type 0
TellsAll told = (r : Reply) → told r ≡ told_of r

-- over views, each with its documents, its indexes by name, and their entries
module _ {V : Type 0} (documents : V → List Document) (indexes : V → Indexes) where
  -- a look tells the documents and the indexes of its view
  abbrev pub seen_in : Look V → Seen
  seen_in l = record { place = l.place; stamp = l.stamp; view = option_map (λ v. (documents v, indexes v)) l.view }

  abbrev pub ShowsTables : (Look V → Seen) → Type 0
  ShowsTables heard = (l : Look V) → heard l ≡ seen_in l

  -- the indexes of a view hold the entries of their definitions
  abbrev pub HoldsEntries : (V → Bytes → List Entry) → Type 0
  HoldsEntries entries = (v : V) (name : Bytes) → entries v name ≡ index_lists (documents v) (indexes v) name

-- a count of faults has risen; one that stands at its last number counts as risen
abbrev pub Risen : ℕ → ℕ → Type 0
Risen old new = (old < new) ⊎ (new ≡ 2 ^ 64 - 1)

-- a change, as a key with the document that is there after it
abbrev pub kept_of : Kept → Plain × Option Plain
kept_of k = (plain k.key, option_map plain k.new)

-- over what an engine tells of a command: of the engine before it and after it, who gave it, and the reply, if there is one
module _ {E : Type 0} (tells : E → E → ℕ → Order → Option Reply → Type 0) where
  -- the count of faults never falls
  abbrev pub FaultsStay : (E → ℕ) → Type 0
  FaultsStay faults = (old new : E) (by : ℕ) (o : Order) (r : Option Reply) → tells old new by o r → faults old ≤ faults new

  -- a command is answered that it was not saved only where the count rose, and never by an engine that is sound
  abbrev pub FailsByFaults : (E → State) → (E → ℕ) → Type 0
  FailsByFaults state faults = (old new : E) (by : ℕ) (o : Order) (r : Reply) → tells old new by o (Some r) → r.saved ≡ Failed → Risen (faults old) (faults new) × ((state old).sound ≡ false)

  -- an engine keeps the changes of its last command
  abbrev pub KeepsChanges : (E → State) → (E → List (Plain × Option Plain)) → Type 0
  KeepsChanges state kept = (old new : E) (by : ℕ) (o : Order) (r : Reply) → tells old new by o (Some r)
      → kept new ≡ map at_key (changes_at (feeding (state old).most) (state old).table by (known_cmd o.cmd))

  -- and a command that memory was wanted for leaves them
  abbrev pub LeavesChanges : (E → List (Plain × Option Plain)) → Type 0
  LeavesChanges kept = (old new : E) (by : ℕ) (o : Order) → tells old new by o None → kept new ≡ kept old
