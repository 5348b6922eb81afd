-- What the commands of a history were answered: the feeds that were opened, and what was sent to each of them.
use Rattle.std.specs.Prelude.{ℕ, nat_eq, nat_lt, List, [], ◌∷◌, ◌++◌, flat_map, Bool, not, ◌&&◌, cond, Option, Some, None}
use Rattle.std.specs.List.{list_any}
use Rattle.reql_datum.specs.Plain.{Plain}
use Rattle.reql_table_machine_spec.specs.declared.command.Said.{Said}
use Rattle.reql_table_machine_spec.specs.declared.command.Said.TheVariants as said
use Rattle.reql_write_spec.specs.declared.command.Summary.{Summary}
use Rattle.reql_table_spec.specs.Indexes.{Indexes}
use Rattle.reql_table_spec.specs.Machine.{State, after, reply}
use Rattle.reql_table_spec.specs.Table.{Held, held}
use Rattle.reql_table_spec.specs.declared.command.Cmd.{Cmd}
use Rattle.reql_table_spec.specs.declared.command.Cmd.TheVariants as cmds
use Rattle.reql_table_spec.specs.declared.command.Entry.{Entry}
use Rattle.reql_table_spec.specs.declared.command.FeedSpec.{FeedSpec}

-- a feed that was opened: who opened it, its number, what it keeps of its request, and the stamp of the table there
pub record OpenedFeed : Type 0 where
  pub owner : ℕ
  pub number : ℕ
  pub kept : Option Held
  pub opened : ℕ

-- a batch: who took it, of which feed, whether it tells that items were dropped, and its items with their stamps
pub record Sent : Type 0 where
  pub owner : ℕ
  pub number : ℕ
  pub skips : Bool
  pub items : List (ℕ × Plain)

-- the number of the feed that was opened
abbrev pub number_of : Said Summary Plain → Option ℕ
number_of (said.Opened number opening) = Some number
number_of answer = None

-- the feed that a Subscribe opened that was answered so, and the batch that a Take was answered
abbrev pub opened_as : Indexes → ℕ → ℕ → FeedSpec → Option ℕ → List OpenedFeed
opened_as indexes stamp by spec None = []
opened_as indexes stamp by spec (Some number) = record { owner = by; number = number; kept = held indexes spec; opened = stamp } ∷ []

abbrev pub opened_by : State → ℕ → Cmd → Said Summary Plain → List OpenedFeed
opened_by s by (cmds.Subscribe spec) answer = opened_as s.table.indexes s.table.stamp by spec (number_of answer)
opened_by s by cmd answer = []

abbrev pub taken_as : ℕ → ℕ → Said Summary Plain → List Sent
taken_as by feed (said.Batch skipped last items) = record { owner = by; number = feed; skips = not (nat_eq skipped 0); items = items } ∷ []
taken_as by feed answer = []

abbrev pub sent_by : ℕ → Cmd → Said Summary Plain → List Sent
sent_by by (cmds.Take feed max) answer = taken_as by feed answer
sent_by by cmd answer = []

-- all of a history, from a state on
abbrev pub feeds_opened : State → List Entry → List OpenedFeed
feeds_opened s [] = []
feeds_opened s (e ∷ es) = opened_by s e.by e.order.cmd (reply s e.by e.order).said ++ feeds_opened (after s e.by e.order) es

abbrev pub batches_taken : State → List Entry → List Sent
batches_taken s [] = []
batches_taken s (e ∷ es) = sent_by e.by e.order.cmd (reply s e.by e.order).said ++ batches_taken (after s e.by e.order) es

-- what was sent to the feed of this owner and number: its items in order, and whether it was told that items were dropped
abbrev pub is_to : ℕ → ℕ → Sent → Bool
is_to owner number b = nat_eq b.owner owner && nat_eq b.number number

abbrev pub sent_in : ℕ → ℕ → Sent → List (ℕ × Plain)
sent_in owner number b = cond (is_to owner number b) b.items []

abbrev pub sent_to : ℕ → ℕ → List Sent → List (ℕ × Plain)
sent_to owner number bs = flat_map (sent_in owner number) bs

abbrev pub skips : ℕ → ℕ → List Sent → Bool
skips owner number bs = list_any (λ b. is_to owner number b && b.skips) bs

-- the greatest of a stamp and those of items
abbrev pub latest : ℕ → List (ℕ × Plain) → ℕ
latest stamp [] = stamp
latest stamp (i ∷ is) = latest (cond (nat_lt stamp i.0) i.0 stamp) is
