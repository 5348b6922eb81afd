-- The table machine: what a table is after a command, and what the command is answered.
use Rattle.std.specs.Prelude.{ℕ, List, [], ◌∷◌, map, Bool, true, false}
use Rattle.reql_term.specs.Views.{Document, index_of}
use Rattle.reql_write_spec.specs.declared.command.WriteCmd.{WriteCmd}
use Rattle.reql_shared.specs.Machine.{Machine}
use Rattle.reql_shared.specs.declared.engine.Snap.{Snap}
use Rattle.reql_shared.specs.declared.recorded.Recorded.{Recorded}
use Rattle.reql_table_machine_spec.specs.Feeds.{adds, after_cmd, reply_to_cmd, look}
use Rattle.reql_table_machine_spec.specs.declared.command.Cmd.{Cmd as Known}
use Rattle.reql_table_machine_spec.specs.declared.command.Cmd.TheVariants as known
use Rattle.reql_table_machine_spec.specs.declared.command.Look.{Look}
use Rattle.reql_table_machine_spec.specs.declared.command.Order.{Order as Asked}
use Rattle.reql_table_spec.specs.Indexes.{Indexes, IndexCmd, create, drop, rename}
use Rattle.reql_table_spec.specs.Replies.{Answered}
use Rattle.reql_table_spec.specs.Table.{DocumentTable, feeding, opening}
use Rattle.reql_table_spec.specs.declared.command.Cmd.{Cmd}
use Rattle.reql_table_spec.specs.declared.command.Cmd.TheVariants as cmds
use Rattle.reql_table_spec.specs.declared.command.Entry.{Entry}
use Rattle.reql_table_spec.specs.declared.command.FeedSpec.{FeedSpec}
use Rattle.reql_table_spec.specs.declared.command.Order.{Order}

-- what contracts see of the engine of a table: the table; how many feeds may be open, and how many entries of its history are kept; and,
-- fixed when it is made, whether its disk never fails, and whether it has one
pub record State : Type 0 where
  pub table : DocumentTable
  pub most : ℕ
  pub keeps : ℕ
  pub sound : Bool
  pub journaled : Bool

-- a command, as the machine of tables knows it
abbrev pub known_cmd : Cmd → Known WriteCmd IndexCmd FeedSpec
known_cmd (cmds.Write w) = known.Write w
known_cmd (cmds.IndexCreate d) = known.Index (create d.name (index_of d))
known_cmd (cmds.IndexDrop name) = known.Index (drop name)
known_cmd (cmds.IndexRename old new overwrite) = known.Index (rename old new overwrite)
known_cmd (cmds.Subscribe spec) = known.Subscribe spec
known_cmd (cmds.Take feed max) = known.Take feed max
known_cmd (cmds.Unsubscribe feed) = known.Unsubscribe feed
known_cmd cmds.Shut = known.Shut
known_cmd cmds.Sync = known.Sync

abbrev pub known_order : Order → Asked (Known WriteCmd IndexCmd FeedSpec)
known_order o = record { points = o.points; cmd = known_cmd o.cmd }

abbrev pub known_entry : Recorded Order → Recorded (Asked (Known WriteCmd IndexCmd FeedSpec))
known_entry e = record { by = e.by; cmd = known_order e.cmd }

-- an entry of a table's history, as a shared history has it
abbrev pub entry_of : Entry → Recorded Order
entry_of e = record { by = e.by; cmd = e.order }

abbrev pub after : State → ℕ → Order → State
after s by order = record s { table = after_cmd (feeding s.most) s.table by (known_cmd order.cmd) }

abbrev pub reply : State → ℕ → Order → Answered
reply s by order = reply_to_cmd (feeding s.most) s.table by (known_cmd order.cmd)

-- one command: the table after it, and what it is answered
abbrev pub step : State → ℕ → Order → State × Answered
step s by order = (after s by order, reply s by order)

-- a look: the point, with the documents and the indexes, or nothing of a table that was dropped
abbrev pub Seen : Type 0
Seen = Look (List Document × Indexes)

abbrev pub seen : State → Seen
seen s = look (feeding s.most) s.table

abbrev pub is_recorded : Answered → Bool
is_recorded r = adds (feeding 0) r.said

abbrev pub machine : Machine State Order Answered Snap Seen
machine = record { reply = reply; recorded = is_recorded; after = after; answer = λ s q. seen s; place = λ s. s.table.place }

-- an engine without a disk that nobody has used: over a table that was kept, which may have been dropped, and over an empty one
abbrev pub opened : ℕ → ℕ → List Document → Indexes → Bool → State
opened most keeps docs indexes shut = record { table = record (opening docs indexes) { shut = shut }; most = most; keeps = keeps; sound = true; journaled = false }

abbrev pub unused : ℕ → ℕ → State
unused most keeps = opened most keeps [] [] false
