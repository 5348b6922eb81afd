-- What one call does to a desk: one act of its pass on a slot or on the names.
use Rattle.std.specs.Prelude.{◌≡◌, ◌<◌, ℕ, List, [], All, Bool, true, false, length, Result, Ok, Err}
use Rattle.reql_datum.specs.declared.point.Point.{Point}
use Rattle.reql_datum.specs.Plain.{Plain}
use Rattle.reql_memory.specs.declared.memory.Memory.{Memory}
use Rattle.reql_memory.specs.declared.memory.Refused.{Refused}
use Rattle.reql_shared.specs.Acts.{Act, Ran, Looked, Denied, Acts}
use Rattle.reql_shared.specs.declared.engine.Snap.{Snap}
use Rattle.reql_catalog.specs.Catalog.{Named}
use Rattle.reql_catalog.specs.Machine.{catalogue_machine}
use Rattle.reql_catalog.specs.declared.catalog.Catalog.{Catalog}
use Rattle.reql_catalog.specs.declared.command.CatCmd.{CatCmd}
use Rattle.reql_catalog.specs.declared.command.CatReply.{CatReply}
use Rattle.reql_hall.specs.Rooms.{Sitting, pass}
use Rattle.reql_table_machine_spec.specs.declared.command.Look.{Look}
use Rattle.reql_table_machine_spec.specs.declared.command.Said.{Said}
use Rattle.reql_table_machine_spec.specs.declared.command.Said.TheVariants as said
use Rattle.reql_write_spec.specs.declared.command.Summary.{Summary}
use Rattle.reql_table_spec.specs.Machine.{State, Seen}
use Rattle.reql_table_spec.specs.Replies.{Answered, told_of, said_of}
use Rattle.reql_table_spec.specs.declared.command.Order.{Order}
use Rattle.reql_table_spec.specs.declared.reply.Reply.{Reply}
use Rattle.reql_table_spec.specs.declared.reply.Saved.{Saved}
use Rattle.reql_session_spec.specs.Requests.{point}
use Rattle.reql_session_spec.specs.Tasks.{take_order, close_order}
use Rattle.reql_session_spec.specs.Session.{Event, On}
use Rattle.reql_session_spec.specs.Explained.{IsHonest}
use Rattle.reql_session_spec.specs.Worlds.{OnSlot}
use Rattle.reql_session_api.specs.declared.answered.Arm.{Arm}
use Rattle.reql_desk_moves.specs.declared.taking.Taken.{Taken}
use Rattle.reql_desk_moves.specs.declared.taking.Taken.TheVariants as taken

-- what contracts see of a session's desk
abbrev pub AtDesk : Type 0
AtDesk = Sitting Order State CatCmd Catalog

-- the slots of these arms are there
abbrev pub AreThere : ℕ → List Arm → Type 0
AreThere count arms = All (λ (a : Arm). a.slot < count) arms

-- whether an answer to a Take ends a visit
abbrev pub tells_something : Said Summary Plain → Bool
tells_something (said.Batch skipped last items) = true
tells_something said.Gone = true
tells_something (said.HistoryFull count) = true
tells_something other = false

module _ (some : State) where
  -- one act on a slot, and nothing elsewhere
  pub record ActsAt (p q : AtDesk) (slot : ℕ) (act : Act Order Answered Snap Seen) : Type 0 where
    pub names : q.names ≡ p.names
    pub slots : OnSlot (pass some p) (pass some q) slot act

  -- a command that was answered, and kept on disk or not
  pub record Answers (p q : AtDesk) (slot : ℕ) (order : Order) (reply : Answered) (saved : Saved) : Type 0 where
    pub place : ℕ
    pub acts : ActsAt p q slot (Ran place order reply)
    pub honest : IsHonest (λ t. (pass some p t).object.start.sound) (On slot (Ran place order reply) saved)

  pub record Denies (p q : AtDesk) (slot : ℕ) : Type 0 where
    pub place : ℕ
    pub acts : ActsAt p q slot (Denied place)

  abbrev pub RunsAt : AtDesk → AtDesk → ℕ → Order → Result Reply (Refused Order) → Type 0
  RunsAt p q slot order (Ok reply) = Answers p q slot order (told_of reply) reply.saved
  RunsAt p q slot order (Err refused) = Denies p q slot

  pub record Shows (p q : AtDesk) (slot : ℕ) (look : Seen) : Type 0 where
    pub place : ℕ
    pub acts : ActsAt p q slot (Looked place (record {}) look)

  -- an Unsubscribe
  abbrev pub ClosesArm : AtDesk → AtDesk → Arm → Bool → Type 0
  ClosesArm p q arm true = (reply : Answered) × (saved : Saved) × Answers p q arm.slot (close_order arm.feed) reply saved
  ClosesArm p q arm false = Denies p q arm.slot

  -- a Take
  abbrev pub TakesArm : AtDesk → AtDesk → Arm → ℕ → Taken → Type 0
  TakesArm p q arm batch (taken.Nothing seen) = (reply : Answered) × (saved : Saved) × (tells_something reply.said ≡ false) × (seen ≡ point arm.slot reply.place reply.stamp) × Answers p q arm.slot (take_order arm.feed batch) reply saved
  TakesArm p q arm batch (taken.Answered reply seen) = (tells_something (said_of reply.said) ≡ true) × (seen ≡ point arm.slot reply.place reply.stamp) × Answers p q arm.slot (take_order arm.feed batch) (told_of reply) reply.saved
  TakesArm p q arm batch taken.Denied = Denies p q arm.slot

  -- the names alone
  pub record NamesAct (p q : AtDesk) (act : Act CatCmd CatReply Snap Named) : Type 0 where
    pub slots : (t : ℕ) → pass some q t ≡ pass some p t
    pub names : Acts catalogue_machine p.names q.names act

  abbrev pub ChangesNames : AtDesk → AtDesk → CatCmd → Result CatReply (Refused CatCmd) → Type 0
  ChangesNames p q cmd (Ok reply) = (place : ℕ) × NamesAct p q (Ran place cmd reply)
  ChangesNames p q cmd (Err refused) = (place : ℕ) × NamesAct p q (Denied place)

  abbrev pub LooksAtNames : AtDesk → AtDesk → Result (ℕ × Named) Memory → Type 0
  LooksAtNames p q (Ok seen) = NamesAct p q (Looked seen.0 (record {}) seen.1)
  LooksAtNames p q (Err memory) = (place : ℕ) × NamesAct p q (Denied place)

-- a look tells what the engine's looks tell
module _ {V : Type 0} (heard : Look V → Seen) (some : State) where
  abbrev pub LooksAt : AtDesk → AtDesk → ℕ → Result (Look V) Memory → Type 0
  LooksAt p q slot (Ok look) = Shows some p q slot (heard look)
  LooksAt p q slot (Err memory) = Denies some p q slot
