-- The course of a request: what it asks, in the order of its refusals, and what it is answered.
use Rattle.std.specs.Prelude.{ℕ, zero, suc, ℤ, List, [], ◌∷◌, ◌++◌, map, length, min, Option, Some, None, Bool, true, false, ◌&&◌, ◌||◌, cond, nat_eq, nat_lt, nat_le, codes}
use Rattle.reql_datum.specs.Answer.{Reason}
use Rattle.reql_datum.specs.Plain.{Plain}
use Rattle.reql_datum.specs.Whole.{is_in}
use Rattle.reql_datum.specs.declared.whole.NumFault.TheVariants.{OverRange}
use Rattle.reql_term.specs.Form.{Form, several, function, operation, Forms, no_forms, form, NamedForms}
use Rattle.reql_term.specs.Table.{task_of}
use Rattle.reql_term.specs.Views.{Document}
use Rattle.reql_term.specs.declared.op.Op.{Op}
use Rattle.reql_term.specs.declared.role.Task.{Task}
use Rattle.reql_term.specs.declared.role.Task.TheVariants as task
use Rattle.reql_rewrite.specs.Rewrite.{rewritten}
use Rattle.reql_rules.specs.Faults.{misplaced, no_index, number_fault}
use Rattle.reql_rules.specs.Lists.{Bytes}
use Rattle.reql_rules.specs.Types.{truth}
use Rattle.reql_faults.specs.Places.{first, second}
use Rattle.reql_catalog.specs.Catalog.{Named}
use Rattle.reql_catalog.specs.declared.command.CatCmd.{CatCmd}
use Rattle.reql_catalog.specs.declared.command.CatSaid.{CatSaid}
use Rattle.reql_catalog.specs.declared.command.CatSaid.TheVariants as cat_said
use Rattle.reql_naming.specs.Named.{resolved}
use Rattle.reql_naming.specs.Texts.{bad_name, no_db, no_table}
use Rattle.reql_value_spec.specs.Shown as values
use Rattle.reql_value_spec.specs.Shown.{Shown}
use Rattle.reql_write_spec.specs.declared.command.Summary.{Summary}
use Rattle.reql_feed_spec.specs.Shown.{Shows, state_item}
use Rattle.reql_table_spec.specs.Followed.{arguments}
use Rattle.reql_table_spec.specs.Indexes.{Indexes}
use Rattle.reql_table_spec.specs.Machine.{Seen}
use Rattle.reql_table_spec.specs.declared.command.Cmd.{Cmd}
use Rattle.reql_table_spec.specs.declared.command.Cmd.TheVariants as cmds
use Rattle.reql_table_spec.specs.declared.command.Order.{Order}
use Rattle.reql_table_spec.specs.Replies.{Answered as Reply}
use Rattle.reql_table_machine_spec.specs.declared.command.Said.TheVariants as said
use Rattle.reql_table_spec.specs.declared.reply.Saved.{Saved}
use Rattle.reql_table_spec.specs.declared.reply.Saved.TheVariants as saved
use Rattle.reql_plan_spec.specs.declared.parts.Plan.{Plan}
use Rattle.reql_plan_spec.specs.declared.parts.Setting.{Setting}
use Rattle.reql_plan_spec.specs.declared.parts.Prepared.{Prepared}
use Rattle.reql_plan_spec.specs.declared.parts.Commanded.{Commanded}
use Rattle.reql_plan_spec.specs.declared.parts.Opening.{Opening}
use Rattle.reql_plan_spec.specs.Commands.{cat_command, names_in, made_by, dropped_by, counted, table_command, cmd_of}
use Rattle.reql_plan_spec.specs.Feeding.{Told, Feeding, feeding}
use Rattle.reql_plan_spec.specs.Held.{Held, Read, nothing_read, dropped_of, dropped, with_view, world_of}
use Rattle.reql_plan_spec.specs.Keys.{key_of}
use Rattle.reql_plan_spec.specs.Move.{look_names, tell, look, run, change_names, roll, Replied, Heard, names, told, looked, ran, changed, rolled, memory, Arm, Item, Outcome, unsent, atom, grouped, sequence, feed}
use Rattle.reql_plan_spec.specs.Reads.{read_slots, leaks, has_now, now_rule, with_element}
use Rattle.reql_plan_spec.specs.Request.{Moves, ◌>>=◌, give, halt, refuse, from, ask, request, Next, answered, moves, next}
use Rattle.reql_plan_spec.specs.Settled.{there, meant_of, datum_of, sequence_of}
use Rattle.reql_plan_spec.specs.Summed.{added, nothing_done, summary_shown}
use Rattle.reql_plan_spec.specs.Texts.{db_there, table_there, index_there, undetermined, no_clock, no_dice, no_journal, too_many_cursors, too_many_feeds, too_many_tables, history_full}
use Rattle.reql_plan_spec.specs.Writes.{prepared, with_keys}

-- an answer to another move than was made, which never comes
abbrev pub lost : {A : Type 0} → Moves A
lost = refuse misplaced

-- ---- the catalogue, the functions that may name no table, the moment
abbrev pub names_heard : Heard → Moves Named
names_heard (names ns) = give ns
names_heard h = lost

abbrev pub determined : Form → Moves Form
determined f = cond (leaks false f) (refuse undetermined) (give f)

abbrev pub moment_in_range : ℤ → Moves ℤ
moment_in_range n = cond (is_in n) (give n) (refuse (number_fault OverRange))

abbrev pub moment_by : Option ℤ → Moves ℤ
moment_by None = refuse no_clock
moment_by (Some n) = moment_in_range n

abbrev pub moment_heard : Heard → Moves ℤ
moment_heard (told n) = moment_by n
moment_heard h = lost

-- ---- the snapshots, by rising slot
abbrev pub seen_at : Named → Read → ℕ → Seen → Option (List Document × Indexes) → Moves Read
seen_at ns r n at None = refuse (dropped ns n)
seen_at ns r n at (Some found) = give (with_view ns r n at found)

abbrev pub seen_heard : Named → Read → ℕ → Heard → Moves Read
seen_heard ns r n (looked at) = seen_at ns r n at at.view
seen_heard ns r n h = lost

abbrev pub looks : Named → Read → List ℕ → Moves Read
looks ns r [] = give r
looks ns r (n ∷ rest) = do
  h ← ask (look n)
  s ← seen_heard ns r n h
  looks ns s rest

-- ---- a command on a slot: a shut slot, a full history, and a journal that failed are the answer
abbrev pub said_by : Named → ℕ → Replied → Moves Replied
said_by ns n said.Gone = refuse (dropped ns n)
said_by ns n (said.HistoryFull count) = refuse history_full
said_by ns n s = give s

abbrev pub kept_by : Named → ℕ → Replied → Saved → Moves Replied
kept_by ns n s saved.Yes = said_by ns n s
kept_by ns n s saved.Failed = refuse no_journal
kept_by ns n s saved.Memory = halt memory

abbrev pub reply_heard : Named → ℕ → Heard → Moves Replied
reply_heard ns n (ran r kept) = kept_by ns n r.said kept
reply_heard ns n h = lost

abbrev pub order_of : Held → Cmd → Order
order_of e c = record { points = e.points; cmd = c }

abbrev pub command : Held → ℕ → Cmd → Moves Replied
command e n c = do
  h ← ask (run n (order_of e c))
  reply_heard e.names n h

-- ---- writes
abbrev pub key_by : Option Bytes → Moves Plain
key_by None = refuse no_dice
key_by (Some bytes) = give (key_of bytes)

abbrev pub key_heard : Heard → Moves Plain
key_heard (rolled bytes) = key_by bytes
key_heard h = lost

-- keys for the documents that have none, in their order
abbrev pub keys : List Plain → ℕ → Moves (List Plain)
keys made zero = give made
keys made (suc n) = do
  h ← ask roll
  k ← key_heard h
  keys (made ++ k ∷ []) n

abbrev pub summary_said : Replied → Moves Summary
summary_said (said.Done s) = give s
summary_said s = lost

abbrev pub run_write : Held → Prepared → List Plain → ℕ → Moves Summary
run_write e p before left = do
  made ← keys before left
  s ← command e p.slot (cmds.Write (with_keys made p.cmd))
  summary_said s

abbrev pub write : Held → Form → Moves Summary
write e f = do
  p ← from (prepared e f)
  run_write e p [] p.rolls

abbrev pub wrote : Held → Form → Moves Outcome
wrote e f = do
  s ← write e f
  give (atom (summary_shown s))

-- ---- FOR_EACH: the writes of its body for each element, each a command of its own
abbrev pub round : Held → ℕ → Plain → Summary → List Form → Moves Summary
round e id d total [] = give total
round e id d total (w ∷ ws) = do
  f ← from (with_element id d w)
  s ← write e f
  round e id d (added total s) ws

abbrev pub rounds : Held → ℕ → List Form → Summary → List Plain → Moves Summary
rounds e id ws total [] = give total
rounds e id ws total (d ∷ ds) = do
  t ← round e id d total ws
  rounds e id ws t ds

abbrev pub writes_of : Form → List Form
writes_of (several fs) = arguments fs
writes_of f = f ∷ []

abbrev pub first_id : List ℕ → ℕ
first_id [] = 0
first_id (k ∷ ks) = k

pub record Each : Type 0 where
  pub id : ℕ
  pub writes : List Form

abbrev pub each_of : Form → Moves Each
each_of (function ids f) = give (record { id = first_id ids; writes = writes_of f })
each_of f = lost

abbrev pub for_each : Held → Forms → Moves Outcome
for_each e fs = do
  f ← from (there (first fs))
  ds ← from (sequence_of e.world f)
  g ← from (there (second fs))
  b ← each_of g
  s ← rounds e b.id b.writes nothing_done ds
  give (atom (summary_shown s))

-- ---- commands on names: a drop shuts the slots of its tables, rising
abbrev pub shuts : Held → List ℕ → Moves (Unit {0})
shuts e [] = give tt
shuts e (n ∷ ns) = do
  s ← command e n cmds.Shut
  shuts e ns

abbrev pub changed_by : Held → CatCmd → CatSaid → Moves Outcome
changed_by e c cat_said.Made = give (atom (made_by c))
changed_by e c (cat_said.Dropped slots) = do
  u ← shuts e slots
  give (atom (dropped_by c (length slots)))
changed_by e c cat_said.DbExists = refuse (db_there (names_in c).0)
changed_by e c cat_said.DbMissing = refuse (no_db (names_in c).0)
changed_by e c cat_said.TableExists = refuse (table_there (names_in c).0 (names_in c).1)
changed_by e c cat_said.TableMissing = refuse (no_table (names_in c).0 (names_in c).1)
changed_by e c (cat_said.SlotsFull count) = refuse too_many_tables
changed_by e c cat_said.BadName = refuse bad_name
changed_by e c (cat_said.HistoryFull count) = refuse history_full

abbrev pub change_heard : Held → CatCmd → Heard → Moves Outcome
change_heard e c (changed r) = changed_by e c r.said
change_heard e c h = lost

abbrev pub change_catalogue : Held → Op → Forms → NamedForms → Moves Outcome
change_catalogue e o fs ms = do
  c ← from (cat_command e o fs ms)
  h ← ask (change_names c)
  change_heard e c h

-- ---- commands on indexes, and SYNC
abbrev pub table_said : Commanded → Replied → Moves Outcome
table_said c said.Changed = give (atom (counted c.label c.count))
table_said c said.IndexExists = refuse (index_there c.present)
table_said c said.IndexMissing = refuse (no_index c.missing)
table_said c s = lost

abbrev pub change_table : Held → Op → Forms → NamedForms → Moves Outcome
change_table e o fs ms = do
  c ← from (table_command e o fs ms)
  s ← command e c.slot (cmd_of c.cmd)
  table_said c s

-- ---- feeds
pub record Open : Type 0 where
  pub slot : ℕ
  pub feed : ℕ
  pub stamp : ℕ
  pub opening : List Plain

-- where a feed isn't opened, the arms before it are closed in order, and the refusal is the answer
abbrev pub closing : {A : Type 0} → Held → Reason → List Open → Moves A
closing e why [] = refuse why
closing e why (o ∷ os) = do
  h ← ask (run o.slot (order_of e (cmds.Unsubscribe o.feed)))
  closing e why os

abbrev pub name_or_empty : Option Bytes → Bytes
name_or_empty None = []
name_or_empty (Some name) = name

-- a feed's number is its own: one that is open already never comes again
abbrev pub is_among : ℕ → ℕ → List Open → Bool
is_among n number [] = false
is_among n number (o ∷ os) = (nat_eq o.slot n && nat_eq o.feed number) || is_among n number os

abbrev pub opened_by : Held → List Open → Opening → ℕ → Replied → Moves Open
opened_by e before o stamp (said.Opened k items) = cond (is_among o.slot k before) lost (give (record { slot = o.slot; feed = k; stamp = stamp; opening = items }))
opened_by e before o stamp said.IndexMissing = closing e (no_index (name_or_empty o.spec.index)) before
opened_by e before o stamp (said.FeedsFull count) = closing e too_many_feeds before
opened_by e before o stamp (said.HistoryFull count) = closing e history_full before
opened_by e before o stamp said.Gone = closing e (dropped e.names o.slot) before
opened_by e before o stamp s = lost

abbrev pub opened_if : Held → List Open → Opening → Reply → Saved → Moves Open
opened_if e before o r saved.Yes = opened_by e before o r.stamp r.said
opened_if e before o r saved.Failed = refuse no_journal
opened_if e before o r saved.Memory = halt memory

abbrev pub open_heard : Held → List Open → Opening → Heard → Moves Open
open_heard e before o (ran r kept) = opened_if e before o r kept
open_heard e before o h = lost

abbrev pub subscribed : Held → List Open → List Opening → Moves (List Open)
subscribed e before [] = give before
subscribed e before (o ∷ os) = do
  h ← ask (run o.slot (order_of e (cmds.Subscribe o.spec)))
  k ← open_heard e before o h
  subscribed e (before ++ k ∷ []) os

-- the first items: opening items by arm, and states with the stamp of arm 0
abbrev pub items_of : ℕ → ℕ → List Plain → List Item
items_of arm stamp ds = map (λ d. record { arm = arm; is_state = false; stamp = stamp; shown = d }) ds

abbrev pub opening_from : ℕ → List Open → List Item
opening_from arm [] = []
opening_from arm (o ∷ os) = items_of arm o.stamp o.opening ++ opening_from (suc arm) os

abbrev pub first_stamp : List Open → ℕ
first_stamp [] = 0
first_stamp (o ∷ os) = o.stamp

abbrev pub shows_of : Told → Shows
shows_of t = record { offsets = t.offsets; types = t.types }

abbrev pub state_of : Told → List Open → Bytes → List Item
state_of t os state = cond t.states (record { arm = 0; is_state = true; stamp = first_stamp os; shown = state_item (shows_of t) state } ∷ []) []

abbrev pub first_items : Told → List Open → List Item
first_items t os = cond t.initial (state_of t os (codes "initializing") ++ opening_from 0 os) [] ++ state_of t os (codes "ready")

abbrev pub notes_of : Feeding → List ℕ
notes_of f = f.note ∷ cond f.told.states (5 ∷ []) []

abbrev pub arm_of : Held → Open → Arm
arm_of e o = record { slot = o.slot; feed = o.feed; dropped = dropped_of e.names o.slot }

abbrev pub opens : Held → Feeding → Moves Outcome
opens e f = do
  os ← subscribed e [] f.openings
  give (feed (map (arm_of e) os) (notes_of f) (first_items f.told os))

-- none is opened where no answer is wanted, nor while as many cursors are open as may be
abbrev pub has_room : Setting → Bool
has_room s = nat_lt s.opened s.cursors

abbrev pub changes : Held → Forms → NamedForms → Moves Outcome
changes e fs ms = do
  f ← from (feeding e fs ms)
  cond e.setting.noreply (give unsent) (cond (has_room e.setting) (opens e f) (refuse too_many_cursors))

-- ---- values: a sequence longer than a batch needs a cursor
abbrev pub fits_in : Held → List Plain → Bool
fits_in e ds = nat_le (length ds) e.batch || has_room e.setting

abbrev pub shown_as : Held → Shown → Moves Outcome
shown_as e (values.atom d) = give (atom d)
shown_as e (values.groups gs) = give (grouped gs)
shown_as e (values.sequence ds) = cond (fits_in e ds) (give (sequence ds)) (refuse too_many_cursors)

abbrev pub shown : Held → Form → Moves Outcome
shown e f = do
  m ← from (meant_of e.world f)
  s ← from (values.shown e.world m)
  shown_as e s

-- ---- what stands at the root, or in an arm of a BRANCH there
abbrev pub is_command_task : Task → Bool
is_command_task task.Value = false
is_command_task task.Branch = false
is_command_task task.Feed = false
is_command_task t = true

abbrev pub is_command : Form → Bool
is_command (operation o fs ms) = is_command_task (task_of o)
is_command f = false

abbrev pub any_command : Forms → Bool
any_command no_forms = false
any_command (form f fs) = is_command f || any_command fs

abbrev pub by_task : Held → Task → Op → Forms → NamedForms → Moves Outcome → Moves Outcome
by_task e task.Value o fs ms arms = shown e (operation o fs ms)
by_task e task.Branch o fs ms arms = cond (any_command fs) arms (shown e (operation o fs ms))
by_task e task.ForEach o fs ms arms = for_each e fs
by_task e task.Write o fs ms arms = wrote e (operation o fs ms)
by_task e task.Catalogue o fs ms arms = change_catalogue e o fs ms
by_task e task.Index o fs ms arms = change_table e o fs ms
by_task e task.Sync o fs ms arms = change_table e o fs ms
by_task e task.Feed o fs ms arms = changes e fs ms

abbrev mutual
  pub carried : Held → Form → Moves Outcome
  carried e (operation o fs ms) = by_task e (task_of o) o fs ms (branched e fs)
  carried e f = shown e f

  -- tests up to the first that is true, then its arm, else the last
  pub branched : Held → Forms → Moves Outcome
  branched e no_forms = lost
  branched e (form f no_forms) = carried e f
  branched e (form f (form g fs)) = from (datum_of e.world f) >>= λ d. cond (truth d) (carried e g) (branched e fs)

-- ---- the whole
abbrev pub held : Plan → Setting → Named → Read → Held
held p s ns r = record { names = ns; db = p.db; world = world_of ns p.array_limit r; points = r.points; setting = s; batch = min p.batch s.batch }

abbrev pub reading : Plan → Setting → Named → Form → Read → List ℕ → Moves Outcome
reading p s ns f before slots = do
  r ← looks ns before slots
  carried (held p s ns r) f

abbrev pub read : Plan → Setting → Named → Form → Moves Outcome
read p s ns f = reading p s ns f nothing_read (read_slots f)

abbrev pub timed : Plan → Setting → Named → Form → Moves Outcome
timed p s ns f = do
  h ← ask tell
  n ← moment_heard h
  g ← from (rewritten (now_rule n) f)
  read p s ns g

abbrev pub at_moment : Plan → Setting → Named → Form → Moves Outcome
at_moment p s ns f = cond (has_now f) (timed p s ns f) (read p s ns f)

abbrev pub resolving : Plan → Setting → Named → Moves Outcome
resolving p s ns = do
  f ← from (resolved ns p.db p.term)
  g ← determined f
  at_moment p s ns g

abbrev pub course : Plan → Setting → Moves Outcome
course p s = do
  h ← ask look_names
  ns ← names_heard h
  resolving p s ns

-- where no answer is wanted there is none, whatever it would be
abbrev pub sent : Setting → Next → Next
sent s (answered o) = answered (cond s.noreply unsent o)
sent s (moves q) = moves q

-- the next move of a request whose moves so far were answered so
abbrev pub plan_next : Plan → Setting → List Heard → Next
plan_next p s hs = sent s (next (request (course p s)) hs)
