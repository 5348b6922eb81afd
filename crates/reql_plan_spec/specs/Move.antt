-- What a request asks, what it hears, and what it is answered.
use Rattle.std.specs.Prelude.{ℕ, ℤ, List, Option, Bool}
use Rattle.reql_datum.specs.Answer.{Reason}
use Rattle.reql_datum.specs.Plain.{Plain}
use Rattle.reql_rules.specs.Lists.{Bytes}
use Rattle.reql_table_machine_spec.specs.declared.command.Said.{Said}
use Rattle.reql_write_spec.specs.declared.command.Summary.{Summary}
use Rattle.reql_catalog.specs.Catalog.{Named}
use Rattle.reql_catalog.specs.declared.command.CatCmd.{CatCmd}
use Rattle.reql_catalog.specs.declared.command.CatReply.{CatReply}
use Rattle.reql_table_spec.specs.Machine.{Seen}
use Rattle.reql_table_spec.specs.Replies.{Answered as Reply}
use Rattle.reql_table_spec.specs.declared.command.Order.{Order}
use Rattle.reql_table_spec.specs.declared.reply.Saved.{Saved}

-- a move: a look at the catalogue, what the clock tells, a look at a slot, an order that a slot runs, a command on names, a roll of the dice
pub data Ask : Type 0 where
  look_names : Ask
  tell : Ask
  look : ℕ → Ask
  run : ℕ → Order → Ask
  change_names : CatCmd → Ask
  roll : Ask

-- what a command on a slot is answered
abbrev pub Replied : Type 0
Replied = Said Summary Plain

-- What a move is answered. The table machine's reply comes with whether its command was kept on disk; None is told where the
-- clock or the dice failed.
pub data Heard : Type 0 where
  names : Named → Heard
  told : Option ℤ → Heard
  looked : Seen → Heard
  ran : Reply → Saved → Heard
  changed : CatReply → Heard
  rolled : Option Bytes → Heard

-- why a request has no value; memory is wanted where a reply says so
pub data Stop : Type 0 where
  fault : Reason → Stop
  memory : Stop

-- an arm of an open feed: its slot, its number there, and the text that its end is told with where the table is dropped
pub record Arm : Type 0 where
  pub slot : ℕ
  pub feed : ℕ
  pub dropped : Bytes

-- an item of a feed: the place of its arm, whether it tells a state, and its stamp
pub record Item : Type 0 where
  pub arm : ℕ
  pub is_state : Bool
  pub stamp : ℕ
  pub shown : Plain

-- what a request is answered: nothing where it wants no answer; a value; groups; a sequence; an open feed with its notes and first items
pub data Outcome : Type 0 where
  unsent : Outcome
  atom : Plain → Outcome
  grouped : List (Plain × Plain) → Outcome
  sequence : List Plain → Outcome
  feed : List Arm → List ℕ → List Item → Outcome
  stop : Stop → Outcome
