-- Laws of the table machine.
use Rattle.std.specs.List.{AllByRecursion}
use Rattle.std.specs.Prelude.{◌≡◌, ◌≤◌, ◌<◌, ◌^◌, ℕ, suc, ◌+◌, List, [], ◌∷◌, ◌++◌, length, map, take, Bool, true, false, ◌||◌}
use Rattle.reql_datum.specs.Members.{AreRising}
use Rattle.reql_datum.specs.Order.{order}
use Rattle.reql_datum.specs.Plain.{Plain}
use Rattle.reql_memory.specs.Sorted.{AreRisingBy}
use Rattle.reql_term.specs.Views.{Document}
use Rattle.reql_write_spec.specs.Treated.{Changed}
use Rattle.reql_write_spec.specs.Write.{write}
use Rattle.reql_write_spec.specs.declared.command.Summary.{Summary}
use Rattle.reql_write_spec.specs.declared.command.WriteCmd.{WriteCmd}
use Rattle.reql_feed_spec.specs.Feeds.{changed_by}
use Rattle.reql_feed_spec.specs.Moving.{AreNoNulls, IsNoNull}
use Rattle.reql_shared.specs.Acts.{Act, Ran, Looked, Denied}
use Rattle.reql_shared.specs.Machine.{replay}
use Rattle.reql_shared.specs.Plays.{Woven}
use Rattle.reql_shared.specs.declared.engine.Snap.{Snap}
use Rattle.reql_shared.specs.declared.recorded.Recorded.{Recorded}
use Rattle.reql_table_machine_spec.specs.Feeding.{Folds}
use Rattle.reql_table_machine_spec.specs.Fed as fed
use Rattle.reql_table_machine_spec.specs.Laws.{drops_from}
use Rattle.reql_table_machine_spec.specs.Fed.{Taking}
use Rattle.reql_table_machine_spec.specs.Telling as telling
use Rattle.reql_table_machine_spec.specs.Subscribing as subscribing
use Rattle.reql_table_machine_spec.specs.Ending as ending
use Rattle.reql_table_machine_spec.specs.declared.command.Cmd.{Cmd as Known}
use Rattle.reql_table_machine_spec.specs.declared.command.Order.{Order as Asked}
use Rattle.reql_table_spec.specs.Indexes.{Indexes, IndexCmd}
use Rattle.reql_table_spec.specs.Machine.{State, Seen, known_cmd, known_order, known_entry, machine, after, reply, is_recorded}
use Rattle.reql_table_spec.specs.Replies.{Answered}
use Rattle.reql_table_spec.specs.Table.{DocumentTable, Held, feeding, at_key}
use Rattle.reql_table_spec.specs.declared.command.Cmd.TheVariants as cmds
use Rattle.reql_table_spec.specs.declared.command.FeedSpec.{FeedSpec}
use Rattle.reql_table_spec.specs.declared.command.Order.{Order}

abbrev pub History : Type 0
History = List (Recorded Order)

-- what a user did on a table
abbrev pub Done : Type 0
Done = Act Order Answered Snap Seen

-- the documents when the stamp is n, of a table from which a history goes on
abbrev pub docs_at : State → History → ℕ → List Document
docs_at s history n = fed.docs_at (feeding s.most) s.table (map known_entry history) n

-- the single-document changes that a history makes, from a table on
abbrev pub changes : State → History → List Changed
changes s history = fed.changes_from (feeding s.most) s.table (map known_entry history)

-- documents that rise by their keys, and none of which is null
pub record AreGood (docs : List Document) : Type 0 where
  pub rising : AreRisingBy order docs
  pub real : AreNoNulls docs

-- no change brings a null
abbrev pub May : List Document → Changed → Type 0
May docs x = IsNoNull x.new

-- ---- a command that adds no entry leaves the table as it was: rules out a refusal, an empty Take or a late command with an effect
abbrev pub RefusedStays : Type 0
RefusedStays = (s : State) (by : ℕ) (o : Order) → is_recorded (reply s by o) ≡ false → after s by o ≡ s

-- a command that adds an entry adds one to the place, and place and stamp stay numbers of a u64: rules out an entry that is not counted, and a number
-- that wraps
pub record IsRecorded (t u : DocumentTable) : Type 0 where
  pub place : u.place ≡ suc t.place
  pub room : u.place < 2 ^ 64
  pub stamp : u.stamp < 2 ^ 64

abbrev pub RecordedFit : Type 0
RecordedFit = (s : State) (by : ℕ) (o : Order) → is_recorded (reply s by o) ≡ true → IsRecorded s.table (after s by o).table

-- the documents after a history are those after all its changes: rules out a change that is counted and not made, or made and not counted
abbrev pub DocsAtStamp : Type 0
DocsAtStamp = (s : State) (history : History) → docs_at s history (replay machine s history).table.stamp ≡ (replay machine s history).table.docs

-- the stamp counts the changes: rules out a change that two stamps have, or none
abbrev pub StampCounts : Type 0
StampCounts = (s : State) (history : History) → (replay machine s history).table.stamp ≡ s.table.stamp + length (changes s history)

-- the documents at a later stamp are the same seen from a later table, and those at a stamp that was reached stay: rules out that an answer of a
-- point changes when the history goes on
abbrev pub LaterDocs : Type 0
LaterDocs = (s : State) (history more : History) (n : ℕ) → (replay machine s history).table.stamp ≤ n → docs_at s (history ++ more) n ≡ docs_at (replay machine s history) more n

abbrev pub DocsStay : Type 0
DocsStay = (s : State) (history more : History) (n : ℕ) → n ≤ (replay machine s history).table.stamp → docs_at s (history ++ more) n ≡ docs_at s history n

-- the table at a place stays when the history goes on, and with it what a command there is answered: rules out a reply that depends on what comes later
abbrev pub TablesStay : Type 0
TablesStay = (s : State) (history more : History) (place : ℕ) → place ≤ length history → replay machine s (take place (history ++ more)) ≡ replay machine s (take place history)

-- a write leaves what writes leave: rules out a table that goes another way than its writes say
abbrev pub WritesLand : Type 0
WritesLand = (docs : List Document) (indexes : Indexes) (w : WriteCmd) → changed_by docs (map at_key (write docs indexes w).changes) ≡ (write docs indexes w).docs

-- the documents stay good, and the indexes stay in order of their names
abbrev pub GoodStay : Type 0
GoodStay = (s : State) (history : History) → AreGood s.table.docs → AreGood (replay machine s history).table.docs

abbrev pub IndexesStay : Type 0
IndexesStay = (s : State) (history : History) → AreRising s.table.indexes → AreRising (replay machine s history).table.indexes

-- what an engine is by its making stays: rules out limits that a command moves
abbrev pub MakingStays : Type 0
MakingStays = (s : State) (history : History) → replay machine s history ≡ record s { table = (replay machine s history).table }

-- a table is shut exactly where it was, or a command of its history dropped it: rules out a table that anything else shuts, one that a drop leaves open, and
-- one that opens again
abbrev pub drops : State → History → Bool
drops s history = drops_from (feeding s.most) s.table (map known_entry history)

abbrev pub ShutWhereDropped : Type 0
ShutWhereDropped = (s : State) (history : History) → (replay machine s history).table.shut ≡ (s.table.shut || drops s history)

-- ---- every kind of feed folds, over good documents
abbrev pub KindsFold : Type 0
KindsFold = (most : ℕ) → Folds (feeding most) AreGood May

-- the acts of a user, as the machine of tables knows them
abbrev pub known_act : Done → Act (Asked (Known WriteCmd IndexCmd FeedSpec)) Answered (Unit {0}) Seen
known_act (Ran place o r) = Ran place (known_order o) r
known_act (Looked place q x) = Looked place tt x
known_act (Denied place) = Denied place

-- each feed that a user opened by its acts along a history folds to its query, evaluated over the documents of any moment up to which its answers are whole
abbrev pub AllFed : State → History → List Done → Type 0
AllFed s history acts = fed.AllFed (feeding s.most) s.table (map known_entry history) (map known_act acts)

-- rules out an item that is lost, told twice, out of order, or to another, but for a skip that was told
abbrev pub FeedsFold : Type 0
FeedsFold = (s : State) (before during later : History) (by : ℕ) (acts : List Done)
    → AreGood s.table.docs → s.table.feeds ≡ [] → Woven machine (replay machine s before) by (length before) acts during
    → AllFed s (before ++ (during ++ later)) acts

-- ---- of each feed that a user opened by its acts along a history: what holds of its request, of all items that the changes after its opening append to it,
-- and of its Takes up to the first Unsubscribe of it that the user asks, whatever that is answered
abbrev pub OfAllOpened : (ℕ → Held → List (ℕ × Plain) → List (Taking Summary Plain) → Type 0) → Type 0
OfAllOpened holds = (s : State) (before during later : History) (by : ℕ) (acts : List Done)
    → s.table.feeds ≡ [] → Woven machine (replay machine s before) by (length before) acts during
    → telling.AllOpened (feeding s.most) (holds s.most) s.table (map known_entry (before ++ (during ++ later))) (map known_act acts)

-- each Take's answer tells just what went of that which waited since the Take before: rules out a skip that is told of nothing that went, one that is not
-- told, or told again by a later Take, and one that is told behind an item that came after it; a batch in which something is missing, or twice, or out of its
-- order; and a Take that is answered Nothing while something waits. What is behind the last Take waits on, and nothing is said of it.
abbrev pub TellSkips : ℕ → Held → List (ℕ × Plain) → List (Taking Summary Plain) → Type 0
TellSkips most h items ts = telling.AreTold (feeding most) h 0 [] items ts

abbrev pub TakesTellSkips : Type 0
TakesTellSkips = OfAllOpened TellSkips

-- While no count is at its end, what the Takes tell of lies at the front of all that came, in their order: each item is one of so many skipped, or one of those of
-- which a batch is given, which are its items or, of a feed that squashes, what their net joins. Rules out an item that is passed over by Takes which tell of
-- those before and behind it, and one that is told of twice. How far the Takes reach TakesTellSkips says.
abbrev pub LieInOrder : ℕ → Held → List (ℕ × Plain) → List (Taking Summary Plain) → Type 0
LieInOrder most h items ts = AllByRecursion (λ (t : Taking Summary Plain). telling.IsCounted t) ts → telling.AreLaid (feeding most) h ts items

abbrev pub TakesLieInOrder : Type 0
TakesLieInOrder = OfAllOpened LieInOrder

-- ---- Each Take of a user along a history is answered as the table at its place says, with the stamp that it has there, which counts the changes ahead of it:
-- with a batch, or that the feed is unknown, only where the history has room for one more entry, and else that it is full; and where there is nothing to give,
-- Gone if the table is shut, and Nothing if it isn't. Whether something waits in a feed that the user has open, TakesTellSkips says, of what came up to that
-- stamp. A Subscribe is answered with the stamp that the table has at its place, too. Rules out a Take that tells a stamp which the table had earlier, or has not
-- reached, a feed that tells another stamp than the one at which it was opened, one that is told of a drop while its table is open, one that waits on a table
-- that was dropped, and one that is refused for a full history while there is room.
abbrev pub AllPlaced : State → History → List Done → Type 0
AllPlaced s history acts = AllByRecursion (telling.ActIsPlaced (feeding s.most) s.table (map known_entry history)) (map known_act acts)

abbrev pub TakesArePlaced : Type 0
TakesArePlaced = (s : State) (before during later : History) (by : ℕ) (acts : List Done)
    → Woven machine (replay machine s before) by (length before) acts during
    → AllPlaced s (before ++ (during ++ later)) acts

-- Each Subscribe of a user along a history is answered as the table at its place says: Gone exactly where the table was dropped; where it wasn't, that the history
-- is full exactly where it has no room for one more entry; and where it has, that the index is missing exactly where nothing is kept of the request (`held`), that
-- there are too many feeds exactly where it is kept and as many are open as may be, and else a feed, by the number of the place behind it, with the items of its
-- opening. Rules out a feed that is refused for its index while something is kept of its request, one that is opened while nothing is, one that is refused while
-- fewer stand in the table's list, one more than may, and one that is opened on a table that was dropped.
abbrev pub AllSubscribed : State → History → List Done → Type 0
AllSubscribed s history acts = AllByRecursion (subscribing.SubscribeIsPlaced (feeding s.most) s.table (map known_entry history)) (map known_act acts)

abbrev pub SubscribesArePlaced : Type 0
SubscribesArePlaced = (s : State) (before during later : History) (by : ℕ) (acts : List Done)
    → Woven machine (replay machine s before) by (length before) acts during
    → AllSubscribed s (before ++ (during ++ later)) acts

-- the numbers of all feeds that are opened along a history, whoever opens them, rise: rules out a number that two feeds of a table are given
abbrev pub NumbersRise : Type 0
NumbersRise = (s : State) (history : History) → subscribing.RiseFrom s.table.place (subscribing.numbers_from (feeding s.most) s.table (map known_entry history))

-- After each command the feeds that were open on a table are open still, in their order, each with its owner, number, request and stamp of opening, but where an
-- Unsubscribe is answered Closed, which takes out just the asker's feed of that number; and none is new but where a Subscribe is answered by a feed, which is
-- the last. Rules out an Unsubscribe that closes nothing, or another user's feed, a feed that is told of and not opened, and a write or a drop that ends a feed.
abbrev pub FeedsComeAndGo : Type 0
FeedsComeAndGo = (s : State) (by : ℕ) (order : Order) → ending.LeavesOpen (feeding s.most) s.table (after s by order).table by (known_cmd order.cmd) (reply s by order).said

-- An Unsubscribe is answered Closed where who asks has a feed of that number open; where he has none, Gone if the table is shut, and else that the feed is unknown;
-- and where the history has no room for one more entry, that it is full, in place of Closed and of unknown. Rules out a feed that the drop of its table keeps from
-- being closed.
abbrev pub UnsubscribesAreTold : Type 0
UnsubscribesAreTold = (s : State) (by feed : ℕ) (order : Order) → order.cmd ≡ cmds.Unsubscribe feed → ending.MayClose (feeding s.most) s.table by feed (reply s by order).said

-- A look tells the place and the stamp of the table, and its documents and indexes, or that there are none where it is shut. Rules out a table that is there and
-- told as dropped, and one that was dropped and is read.
abbrev pub LooksTellTheTable : Type 0
LooksTellTheTable = (s : State) → ending.TellsTable (feeding s.most) s.table
