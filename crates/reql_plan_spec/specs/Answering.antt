-- What a request for CHANGES comes to: the feeds that it opened, once all are open; a refusal, once those that were open before it are closed.
use Rattle.std.specs.Prelude.{◌≡◌, ℤ, List, [], ◌∷◌, ◌++◌, map, Option, Some, None, true, false, Ok, Err}
use Rattle.reql_datum.specs.Answer.{Reason}
use Rattle.reql_term.specs.Form.{Form, operation, Forms, NamedForms}
use Rattle.reql_term.specs.declared.op.Op.TheVariants as op
use Rattle.reql_rules.specs.Faults.{no_index}
use Rattle.reql_catalog.specs.Catalog.{Named}
use Rattle.reql_naming.specs.Named.{resolved}
use Rattle.reql_table_machine_spec.specs.declared.command.Said.TheVariants as said
use Rattle.reql_table_spec.specs.Machine.{Seen}
use Rattle.reql_table_spec.specs.declared.command.Cmd.TheVariants as cmds
use Rattle.reql_table_spec.specs.declared.reply.Saved.TheVariants as saved
use Rattle.reql_plan_spec.specs.declared.parts.Opening.{Opening}
use Rattle.reql_plan_spec.specs.declared.parts.Plan.{Plan}
use Rattle.reql_plan_spec.specs.declared.parts.Setting.{Setting}
use Rattle.reql_plan_spec.specs.Asked.{clock, is_clocked, read_from, Changing, asked_for, IsOpened}
use Rattle.reql_plan_spec.specs.Course.{order_of, Open, name_or_empty, first_items, notes_of, arm_of, has_room, held, plan_next}
use Rattle.reql_plan_spec.specs.Feeding.{Feeding, feeding}
use Rattle.reql_plan_spec.specs.Held.{Held, Read, nothing_read, dropped}
use Rattle.reql_plan_spec.specs.Minds.{Feeds, has_feed}
use Rattle.reql_plan_spec.specs.Move.{run, Replied, Heard, names, looked, ran, Stop, fault, memory, feed, stop}
use Rattle.reql_plan_spec.specs.Opens.{at_time}
use Rattle.reql_plan_spec.specs.Reads.{has_now, leaks, read_slots}
use Rattle.reql_plan_spec.specs.Request.{Next, answered, moves}
use Rattle.reql_plan_spec.specs.Texts.{no_journal, too_many_cursors, too_many_feeds, history_full}

-- ---- a request that has come to its CHANGES and wants an answer, as one that has come to its feeds (`Changing`), whether they can be read or not
pub record AtChanges (p : Plan) (s : Setting) (hs : List Heard) : Type 0 where
  pub known : Named
  pub moment : Option ℤ
  pub seen : List Seen
  pub replies : List Heard
  pub heard : hs ≡ names known ∷ (clock moment ++ (map looked seen ++ replies))
  pub term : Form
  pub arguments : Forms
  pub options : NamedForms
  pub looked_up : resolved known p.db p.term ≡ Ok term
  pub free : leaks false term ≡ false
  pub clocked : is_clocked (has_now term) moment ≡ true
  pub carried : at_time moment term ≡ Ok (operation op.Changes arguments options)
  pub read : Read
  pub sees : read_from known nothing_read (read_slots (operation op.Changes arguments options)) seen ≡ Some read
  pub wanted : s.noreply ≡ false

-- where its feeds have a fault, that is its answer
abbrev pub FaultyFeedsAreRefused : Type 0
FaultyFeedsAreRefused = (p : Plan) (s : Setting) (hs : List Heard) (c : AtChanges p s hs) (why : Reason) → feeding (held p s c.known c.read) c.arguments c.options ≡ Err why
    → plan_next p s hs ≡ answered (stop (fault why))

-- where they have none, but as many cursors and feeds are open as may be, it is told so
abbrev pub CrowdedFeedsAreRefused : Type 0
CrowdedFeedsAreRefused = (p : Plan) (s : Setting) (hs : List Heard) (c : AtChanges p s hs) (x : Feeding) → feeding (held p s c.known c.read) c.arguments c.options ≡ Ok x
    → has_room s ≡ false → plan_next p s hs ≡ answered (stop (fault too_many_cursors))

-- ---- its feeds, where it may open them
-- each is opened by its answer, with a number that no feed has that is open on its slot
abbrev pub AreOpenedNew : Feeds → List Opening → List Heard → List Open → Type 0
AreOpenedNew before [] [] [] = Unit {0}
AreOpenedNew before (o ∷ os) (h ∷ hs) (k ∷ ks) = IsOpened o h k × ((has_feed k.slot k.feed before ≡ false) × AreOpenedNew (before ++ (k.slot, k.feed) ∷ []) os hs ks)
AreOpenedNew before os hs ks = ⊥

-- while those before it are open it asks for the next one
abbrev pub NextFeedIsAsked : Type 0
NextFeedIsAsked = (p : Plan) (s : Setting) (hs : List Heard) (c : Changing p s hs) (before : List Opening) (o : Opening) (behind : List Opening) (opened : List Open)
    → c.feeds.openings ≡ before ++ (o ∷ behind) → AreOpenedNew [] before c.replies opened → plan_next p s hs ≡ moves (asked_for (held p s c.known c.read) o)

-- once all are open its answer is these
abbrev pub OpenFeedsAreTold : Type 0
OpenFeedsAreTold = (p : Plan) (s : Setting) (hs : List Heard) (c : Changing p s hs) (opened : List Open) → AreOpenedNew [] c.feeds.openings c.replies opened
    → plan_next p s hs ≡ answered (feed (map (arm_of (held p s c.known c.read)) opened) (notes_of c.feeds) (first_items c.feeds.told opened))

-- ---- a feed that is not opened
-- why, and which feeds are closed before that is told: all that are open, but none where the command was not kept on disk or its reply wants memory
pub record Denial : Type 0 where
  pub why : Stop
  pub closes : List Open

abbrev pub denied_as : Held → List Open → Opening → Replied → Option Denial
denied_as e opened o said.IndexMissing = Some (record { why = fault (no_index (name_or_empty o.spec.index)); closes = opened })
denied_as e opened o (said.FeedsFull count) = Some (record { why = fault too_many_feeds; closes = opened })
denied_as e opened o (said.HistoryFull count) = Some (record { why = fault history_full; closes = opened })
denied_as e opened o said.Gone = Some (record { why = fault (dropped e.names o.slot); closes = opened })
denied_as e opened o s = None

abbrev pub denied_by : Held → List Open → Opening → Heard → Option Denial
denied_by e opened o (ran r saved.Yes) = denied_as e opened o r.said
denied_by e opened o (ran r saved.Failed) = Some (record { why = fault no_journal; closes = [] })
denied_by e opened o (ran r saved.Memory) = Some (record { why = memory; closes = [] })
denied_by e opened o h = None

-- these are closed in their order, each whatever the one before it is answered, and then the refusal is the answer
abbrev pub closes_next : Held → Stop → List Open → List Heard → Next
closes_next e why [] hs = answered (stop why)
closes_next e why (k ∷ ks) [] = moves (run k.slot (order_of e (cmds.Unsubscribe k.feed)))
closes_next e why (k ∷ ks) (h ∷ hs) = closes_next e why ks hs

-- one is not opened: those before it are open, and its answer denies it
pub record Denied (e : Held) (openings : List Opening) (replies : List Heard) : Type 0 where
  pub before : List Opening
  pub opening : Opening
  pub behind : List Opening
  pub asked : openings ≡ before ++ (opening ∷ behind)
  pub answers : List Heard
  pub answer : Heard
  pub rest : List Heard
  pub heard : replies ≡ answers ++ (answer ∷ rest)
  pub opened : List Open
  pub each : AreOpenedNew [] before answers opened
  pub denial : Denial
  pub denied : denied_by e opened opening answer ≡ Some denial

abbrev pub DeniedFeedsAreClosed : Type 0
DeniedFeedsAreClosed = (p : Plan) (s : Setting) (hs : List Heard) (c : Changing p s hs) (d : Denied (held p s c.known c.read) c.feeds.openings c.replies)
    → plan_next p s hs ≡ closes_next (held p s c.known c.read) d.denial.why d.denial.closes d.rest
