-- What a move of a course is at a desk, with what the course has met.
use Rattle.std.specs.Prelude.{◌≡◌, ◌⊎◌, ℕ, List, [], ◌∷◌, ◌++◌, Option, Some, None, Result, Ok, Err}
use Rattle.reql_datum.specs.Plain.{Plain}
use Rattle.reql_datum.specs.declared.point.Point.{Point}
use Rattle.reql_memory.specs.declared.memory.Memory.{Memory}
use Rattle.reql_shared.specs.Acts.{Ran, Looked, Denied}
use Rattle.reql_catalog.specs.Catalog.{Named}
use Rattle.reql_catalog.specs.declared.command.CatCmd.{CatCmd}
use Rattle.reql_catalog.specs.declared.command.CatReply.{CatReply}
use Rattle.reql_table_machine_spec.specs.declared.command.Look.{Look}
use Rattle.reql_table_machine_spec.specs.declared.command.Said.{Said}
use Rattle.reql_table_machine_spec.specs.declared.command.Said.TheVariants as said
use Rattle.reql_write_spec.specs.declared.command.Summary.{Summary}
use Rattle.reql_table_spec.specs.Machine.{State, Seen}
use Rattle.reql_table_spec.specs.Replies.{told_of, said_of}
use Rattle.reql_table_spec.specs.declared.command.Cmd.{Cmd}
use Rattle.reql_table_spec.specs.declared.command.Cmd.TheVariants as cmds
use Rattle.reql_table_spec.specs.declared.command.Order.{Order}
use Rattle.reql_table_spec.specs.declared.reply.Reply.{Reply}
use Rattle.reql_session_spec.specs.Requests.{Arm, point}
use Rattle.reql_session_spec.specs.Tasks.{others}
use Rattle.reql_session_api.specs.Meant.{arms_of}
use Rattle.reql_desk_moves.specs.Acting.{AtDesk, Answers, Denies, Shows, NamesAct}
use Rattle.reql_plan_driver.specs.declared.met.Met.{Met}

abbrev pub closed_by : Cmd → Option ℕ
closed_by (cmds.Unsubscribe feed) = Some feed
closed_by other = None

abbrev pub opened_by : Said Summary Plain → Option ℕ
opened_by (said.Opened feed opening) = Some feed
opened_by other = None

abbrev pub at_slot : ℕ → ℕ → Arm
at_slot slot feed = record { slot = slot; feed = feed; dropped = [] }

abbrev pub without_closed : ℕ → Option ℕ → List Arm → List Arm
without_closed slot None arms = arms
without_closed slot (Some feed) arms = others (at_slot slot feed) arms

abbrev pub with_opened : ℕ → Option ℕ → List Arm → List Arm
with_opened slot None arms = arms
with_opened slot (Some feed) arms = arms ++ at_slot slot feed ∷ []

-- the open feeds after a command that was answered
abbrev pub noted : ℕ → Option ℕ → Option ℕ → List Arm → List Arm
noted slot (Some feed) opened arms = without_closed slot (Some feed) arms
noted slot None opened arms = with_opened slot opened arms

-- all but the place of the names stays
pub record Stays (m n : Met) : Type 0 where
  pub points : n.points.items ≡ m.points.items
  pub opened : n.opened.items ≡ m.opened.items

-- a point more, and the open feeds as they are then
pub record Sees (m n : Met) (p : Point) (arms : List Arm) : Type 0 where
  pub points : n.points.items ≡ m.points.items ++ p ∷ []
  pub opened : arms_of n.opened.items ≡ arms
  pub names : n.names ≡ m.names

module _ (some : State) where
  abbrev pub LooksAtNamesIn : AtDesk → AtDesk → Met → Met → Result Named Memory → Type 0
  LooksAtNamesIn p q m n (Ok names) = NamesAct some p q (Looked n.names (record {}) names) × Stays m n
  LooksAtNamesIn p q m n (Err memory) = ((place : ℕ) × NamesAct some p q (Denied place)) × Stays m n × (n.names ≡ m.names)

  abbrev pub ChangesNamesIn : AtDesk → AtDesk → Met → Met → CatCmd → Result CatReply Memory → Type 0
  ChangesNamesIn p q m n cmd (Ok reply) = ((place : ℕ) × NamesAct some p q (Ran place cmd reply)) × Stays m n × (n.names ≡ reply.place)
  ChangesNamesIn p q m n cmd (Err memory) = ((place : ℕ) × NamesAct some p q (Denied place)) × Stays m n × (n.names ≡ m.names)

  -- a command was refused, or memory was wanted before it was given
  abbrev pub RefusedIn : AtDesk → AtDesk → Met → Met → ℕ → List Arm → Type 0
  RefusedIn p q m n slot opened = (n.names ≡ m.names) × (((q ≡ p) × (n.opened.items ≡ m.opened.items)) ⊎ (Denies some p q slot × (arms_of n.opened.items ≡ opened)))

  abbrev pub RunsSlotIn : AtDesk → AtDesk → Met → Met → ℕ → Order → Result Reply Memory → Type 0
  RunsSlotIn p q m n slot order (Ok reply) = Answers some p q slot order (told_of reply) reply.saved × Sees m n (point slot reply.place reply.stamp) (noted slot (closed_by order.cmd) (opened_by (said_of reply.said)) (arms_of m.opened.items))
  RunsSlotIn p q m n slot order (Err memory) = RefusedIn p q m n slot (without_closed slot (closed_by order.cmd) (arms_of m.opened.items))

module _ {V : Type 0} (heard : Look V → Seen) (some : State) where
  abbrev pub LooksSlotIn : AtDesk → AtDesk → Met → Met → ℕ → Result (Look V) Memory → Type 0
  LooksSlotIn p q m n slot (Ok look) = Shows some p q slot (heard look) × Sees m n (point slot look.place look.stamp) (arms_of m.opened.items)
  LooksSlotIn p q m n slot (Err memory) = RefusedIn some p q m n slot (arms_of m.opened.items)
