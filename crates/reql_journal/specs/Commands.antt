-- What a journal keeps of a command.
use Rattle.std.specs.Prelude.{◌≡◌, ℕ, List, [], ◌∷◌, Bool, true, false, if◌then◌else◌, Option, Some, None, option_map}
use Rattle.reql_datum.specs.Plain.{Plain}
use Rattle.reql_term.specs.declared.view.IndexDef.{IndexDef}
use Rattle.reql_write_spec.specs.declared.command.Summary.{Summary}
use Rattle.reql_print.specs.Indexed.{printed_index, ReadsSameEntries}
use Rattle.reql_rules.specs.Lists.{Bytes}
use Rattle.reql_rules.specs.Types.{same_text}
use Rattle.reql_table_machine_spec.specs.declared.command.Said.{Said}
use Rattle.reql_table_machine_spec.specs.declared.command.Said.TheVariants as said
use Rattle.reql_table_spec.specs.declared.command.Cmd.{Cmd}
use Rattle.reql_table_spec.specs.declared.command.Cmd.TheVariants as cmds
use Rattle.reql_table_records.specs.Records.{Change, Recorded, wrote, created, dropped, renamed, shut, record_of}
use Rattle.reql_journal.specs.declared.commands.Draft.{Draft}
use Rattle.reql_journal.specs.declared.commands.Draft.TheVariants as drafts

-- what a command is answered, as the table machine knows it
abbrev pub Heard : Type 0
Heard = Said Summary Plain

-- whether its answer waits until all that was kept is safe on the disk
abbrev pub waits : Cmd → Bool
waits (cmds.Write w) = w.hard
waits (cmds.IndexCreate d) = true
waits (cmds.IndexDrop name) = true
waits (cmds.IndexRename old new overwrite) = true
waits cmds.Shut = true
waits cmds.Sync = true
waits other = false

-- Its record can be written, whatever it is answered: the function of an index has a text, which reads back to a function with the same
-- entries.
abbrev pub IsWritten : Cmd → Type 0
IsWritten (cmds.IndexCreate d) = (text : Bytes) × (printed_index d.multi d.func ≡ Some text) × ReadsSameEntries d.multi d.func text
IsWritten other = Unit {0}

abbrev pub if_changed : Heard → Option Recorded → Option Recorded
if_changed said.Changed r = r
if_changed other r = None

abbrev pub if_closed : Heard → Option Recorded → Option Recorded
if_closed said.Closed r = r
if_closed other r = None

-- the changes, if there are any
abbrev pub if_any : List Change → Option Recorded
if_any [] = None
if_any (c ∷ cs) = Some (wrote (c ∷ cs))

abbrev pub creation : IndexDef → Option Recorded
creation d = option_map (created d.name d.multi) (printed_index d.multi d.func)

-- The record of a command that was answered so and made these changes, if it has one: a write that made changes, a command on indexes
-- that was answered Changed, but for a new name that is the old one, and the Shut that dropped the table.
abbrev pub of_command : Cmd → Heard → List Change → Option Recorded
of_command (cmds.Write w) s cs = if_any cs
of_command (cmds.IndexCreate d) s cs = if_changed s (creation d)
of_command (cmds.IndexDrop name) s cs = if_changed s (Some (dropped name))
of_command (cmds.IndexRename old new overwrite) s cs = if same_text old new then None else if_changed s (Some (renamed old new))
of_command cmds.Shut s cs = if_closed s (Some shut)
of_command other s cs = None

abbrev pub of_draft : Draft → Heard → List Change → Option Recorded
of_draft drafts.Changes s cs = if_any cs
of_draft (drafts.Changed r) s cs = if_changed s (Some (record_of r))
of_draft (drafts.Closed r) s cs = if_closed s (Some (record_of r))
of_draft drafts.Nothing s cs = None
