-- The engine of a table: the table with its feeds, what is kept of its history, and what its last command changed.
use Rattle.std.specs.Prelude.{◌≡◌, ℕ, List, map, Bool, true, false, Option, Some, None}
use Rattle.reql_datum.specs.Plain.{Plain}
use Rattle.reql_table_machine_spec.specs.Fed.{changes_at}
use Rattle.reql_table_machine_spec.specs.Feeds.{adds}
use Rattle.reql_table_spec.specs.Machine.{State, known_cmd}
use Rattle.reql_table_spec.specs.Replies.{said_of}
use Rattle.reql_table_spec.specs.Table.{Held, DocumentTable, feeding, at_key}
use Rattle.reql_table_spec.specs.declared.command.Entry.{Entry}
use Rattle.reql_table_spec.specs.declared.command.Order.{Order}
use Rattle.reql_table_spec.specs.declared.reply.Reply.{Reply}
use Rattle.reql_table_spec.specs.declared.reply.Saved.TheVariants.{Yes}
use Rattle.reql_tail.specs.Kept.{Kept, Adds, standing}
use Rattle.reql_core.specs.Live.{Live, table_of, live_state}
use Rattle.reql_core.specs.Moments.{stand, led_by}
use Rattle.reql_core.specs.declared.moment.Moment.{Moment}

pub record Core (F : Type 0) : Type 0 where
  pub live : Live F
  pub tail : Kept Moment Entry
  pub kept : List (Plain × Option Plain)

abbrev pub stand_of : Moment → DocumentTable
stand_of m = stand m.table m.place m.stamp

-- the table's documents and indexes are the base's after the tail
abbrev pub IsTail : Kept Moment Entry → Moment → Type 0
IsTail k now = standing stand_of led_by k ≡ stand_of now

-- the same, but for the room that there is for the next entry
abbrev pub IsSame : Kept Moment Entry → Kept Moment Entry → Type 0
IsSame k n = n ≡ record k { ready = n.ready }

-- the tail after a command: its entry is the last one where the command adds one
abbrev pub GoesOn : Bool → Kept Moment Entry → Kept Moment Entry → Entry → Type 0
GoesOn true k n e = Adds stand_of led_by k n e
GoesOn false k n e = IsSame k n

module _ {F : Type 0} (held : F → Held) where
  -- what contracts see of it
  abbrev pub state_of : Core F → State
  state_of c = live_state held c.tail.most c.live

  -- what a command's changes are handed over as
  abbrev pub Hands : Live F → ℕ → Order → List (Plain × Option Plain) → Type 0
  Hands old by o kept = kept ≡ map at_key (changes_at (feeding old.most) (table_of held old) by (known_cmd o.cmd))

  -- what it tells of a command beside its machine: it has no disk that could fail, it keeps the command's changes, and its tail goes on
  abbrev pub Tells : Core F → Core F → ℕ → Order → Option Reply → Type 0
  Tells old new by o None = (new.kept ≡ old.kept) × IsSame old.tail new.tail
  Tells old new by o (Some r) = (r.saved ≡ Yes) × Hands old.live by o new.kept × GoesOn (adds (feeding 0) (said_of r.said)) old.tail new.tail (record { by = by; order = o })
