-- All that a plan asks its slots for to open feeds, one after another, by what it hears: the feeds of its CHANGES in their order, each once the one
-- before it is open, and no others.
use Rattle.std.specs.Prelude.{◌≡◌, ℕ, ℤ, List, [], ◌∷◌, ◌++◌, ◌⊎◌, map, filter, Option, Some, None, option_and_then, Bool, true, false, cond, Ok}
use Rattle.reql_datum.specs.Whole.{is_in}
use Rattle.reql_term.specs.Form.{Form, operation, Forms, NamedForms}
use Rattle.reql_term.specs.declared.op.Op.TheVariants as op
use Rattle.reql_faults.specs.Faults.{plan_fault}
use Rattle.reql_catalog.specs.Catalog.{Named}
use Rattle.reql_naming.specs.Named.{resolved}
use Rattle.reql_table_machine_spec.specs.declared.command.Said.TheVariants as said
use Rattle.reql_table_spec.specs.Machine.{Seen}
use Rattle.reql_table_spec.specs.declared.command.Cmd.{Cmd}
use Rattle.reql_table_spec.specs.declared.command.Cmd.TheVariants as cmds
use Rattle.reql_table_spec.specs.declared.command.FeedSpec.{FeedSpec}
use Rattle.reql_table_spec.specs.declared.command.Order.{Order}
use Rattle.reql_table_spec.specs.declared.reply.Saved.TheVariants as saved
use Rattle.reql_plan_spec.specs.declared.parts.Opening.{Opening}
use Rattle.reql_plan_spec.specs.declared.parts.Plan.{Plan}
use Rattle.reql_plan_spec.specs.declared.parts.Setting.{Setting}
use Rattle.reql_plan_spec.specs.Course.{order_of, Open, first_items, notes_of, arm_of, has_room, held, plan_next}
use Rattle.reql_plan_spec.specs.Feeding.{Feeding, feeding}
use Rattle.reql_plan_spec.specs.Held.{Held, Read, nothing_read, with_view}
use Rattle.reql_plan_spec.specs.Minds.{Feeds, has_feed}
use Rattle.reql_plan_spec.specs.Move.{Ask, run, Replied, Heard, names, told, looked, ran, Arm, Item, Outcome, feed}
use Rattle.reql_plan_spec.specs.Opens.{is_asked, at_time}
use Rattle.reql_plan_spec.specs.Reads.{has_now, leaks, read_slots}
use Rattle.reql_plan_spec.specs.Request.{Next, answered, moves}
use Rattle.reql_plan_spec.specs.Theirs.{terms_of, IsItsOwn, AreOf}

-- ---- the moves that ask for a feed

-- what is asked before the first of these answers, and after each of them
abbrev pub move_in : Next → List Ask
move_in (answered o) = []
move_in (moves q) = q ∷ []

abbrev pub asks_along : (List Heard → Next) → List Heard → List Ask
asks_along next [] = move_in (next [])
asks_along next (h ∷ hs) = move_in (next []) ++ asks_along (λ gs. next (h ∷ gs)) hs

abbrev pub opens_feed : Cmd → Bool
opens_feed (cmds.Subscribe spec) = true
opens_feed c = false

abbrev pub asks_feed : Ask → Bool
asks_feed (run n order) = opens_feed order.cmd
asks_feed q = false

abbrev pub feeds_asked : Plan → Setting → List Heard → List Ask
feeds_asked p s hs = filter asks_feed (asks_along (plan_next p s) hs)

-- ---- a request for CHANGES that has come to its feeds

-- the moment, which is told where its term asks for it
abbrev pub clock : Option ℤ → List Heard
clock None = []
clock (Some moment) = told (Some moment) ∷ []

abbrev pub is_clocked : Bool → Option ℤ → Bool
is_clocked true (Some moment) = is_in moment
is_clocked false None = true
is_clocked b moment = false

-- the snapshots of these slots, one for each
abbrev pub read_from : Named → Read → List ℕ → List Seen → Option Read
read_from ns r [] [] = Some r
read_from ns r (n ∷ slots) (at ∷ seen) = option_and_then (λ found. read_from ns (with_view ns r n at found) slots seen) at.view
read_from ns r slots seen = None

pub record Changing (p : Plan) (s : Setting) (hs : List Heard) : Type 0 where
  -- what it heard: the names, the moment, the snapshots, and then what its feeds are answered
  pub known : Named
  pub moment : Option ℤ
  pub seen : List Seen
  pub replies : List Heard
  pub heard : hs ≡ names known ∷ (clock moment ++ (map looked seen ++ replies))
  -- its term with its names looked up, in which no function that may name no table does so, and the CHANGES that it is with the moment in the
  -- place of NOW
  pub term : Form
  pub arguments : Forms
  pub options : NamedForms
  pub looked_up : resolved known p.db p.term ≡ Ok term
  pub free : leaks false term ≡ false
  pub clocked : is_clocked (has_now term) moment ≡ true
  pub carried : at_time moment term ≡ Ok (operation op.Changes arguments options)
  -- what it reads of the slots that it looks at
  pub read : Read
  pub sees : read_from known nothing_read (read_slots (operation op.Changes arguments options)) seen ≡ Some read
  -- its feeds, which it may open
  pub feeds : Feeding
  pub found : feeding (held p s known read) arguments options ≡ Ok feeds
  pub wanted : s.noreply ≡ false
  pub room : has_room s ≡ true

-- ---- the feeds that it asks for

-- the number that a feed is opened with on a slot, where that is kept and is none of those before
abbrev pub new_number : Feeds → ℕ → Replied → Option ℕ
new_number before n (said.Opened number items) = cond (has_feed n number before) None (Some number)
new_number before n s = None

abbrev pub opened_as : Feeds → ℕ → Heard → Option ℕ
opened_as before n (ran r saved.Yes) = new_number before n r.said
opened_as before n h = None

-- the first one, and each next one once the one before it is open
abbrev pub once_opened : Option ℕ → (ℕ → List Opening) → List Opening
once_opened None more = []
once_opened (Some number) more = more number

abbrev pub reached : Feeds → List Opening → List Heard → List Opening
reached before [] hs = []
reached before (o ∷ os) [] = o ∷ []
reached before (o ∷ os) (h ∷ hs) = o ∷ once_opened (opened_as before o.slot h) (λ number. reached (before ++ (o.slot, number) ∷ []) os hs)

-- all that is asked for a feed: its slot, the feed itself, and the points of the snapshots that it was settled by
abbrev pub asked_for : Held → Opening → Ask
asked_for e o = run o.slot (order_of e (cmds.Subscribe o.spec))

abbrev pub AsksFor : (p : Plan) (s : Setting) (hs : List Heard) → Changing p s hs → Type 0
AsksFor p s hs c = feeds_asked p s hs ≡ map (asked_for (held p s c.known c.read)) (reached [] c.feeds.openings c.replies)

-- a request for CHANGES asks for its feeds, as far as its answers lead
abbrev pub FeedsAreAskedInTurn : Type 0
FeedsAreAskedInTurn = (p : Plan) (s : Setting) (hs : List Heard) (c : Changing p s hs) → AsksFor p s hs c

-- and nothing else asks for any: a plan asks for none, or is such a request, and each of its feeds is its own term's
pub record AsksForItsOwn (p : Plan) (s : Setting) (hs : List Heard) : Type 0 where
  pub changes : Changing p s hs
  pub asked : AsksFor p s hs changes
  pub own : AreOf (held p s changes.known changes.read) changes.arguments changes.options changes.feeds

abbrev pub NoOtherFeedsAreAsked : Type 0
NoOtherFeedsAreAsked = (p : Plan) (s : Setting) (hs : List Heard) → is_asked p.term ≡ true → plan_fault p.term ≡ None
    → (feeds_asked p s hs ≡ []) ⊎ AsksForItsOwn p s hs

-- Each such move by itself: it asks for the feed of the first term beyond as many as answers were heard after the snapshots, whatever these are,
-- with all that is its own in the world of the snapshots.
abbrev pub unanswered : {A : Type 0} → List A → List Heard → Option A
unanswered [] hs = None
unanswered (a ∷ rest) [] = Some a
unanswered (a ∷ rest) (h ∷ hs) = unanswered rest hs

pub record IsOfItsTerm (p : Plan) (s : Setting) (hs : List Heard) (n : ℕ) (order : Order) (spec : FeedSpec) : Type 0 where
  pub changes : Changing p s hs
  pub term : Form
  pub place : unanswered (terms_of changes.arguments) changes.replies ≡ Some term
  pub own : IsItsOwn (held p s changes.known changes.read) changes.feeds.told term (record { slot = n; spec = spec })
  pub asked : order ≡ order_of (held p s changes.known changes.read) (cmds.Subscribe spec)

abbrev pub EachIsOfItsTerm : Type 0
EachIsOfItsTerm = (p : Plan) (s : Setting) (hs : List Heard) (n : ℕ) (order : Order) (spec : FeedSpec) → is_asked p.term ≡ true → plan_fault p.term ≡ None
    → plan_next p s hs ≡ moves (run n order) → order.cmd ≡ cmds.Subscribe spec → IsOfItsTerm p s hs n order spec

-- And where a plan ends with a feed, all feeds of its CHANGES are asked for and open, and it tells of just these, in their order.
abbrev pub IsOpened : Opening → Heard → Open → Type 0
IsOpened o h k = (place : ℕ) × (h ≡ ran (record { place = place; stamp = k.stamp; said = said.Opened k.feed k.opening }) saved.Yes) × (k.slot ≡ o.slot)

abbrev pub AreOpened : List Opening → List Heard → List Open → Type 0
AreOpened [] hs [] = Unit {0}
AreOpened (o ∷ os) (h ∷ hs) (k ∷ ks) = IsOpened o h k × AreOpened os hs ks
AreOpened os hs ks = ⊥

pub record EndsWithItsOwn (p : Plan) (s : Setting) (hs : List Heard) (outcome : Outcome) : Type 0 where
  pub changes : Changing p s hs
  pub own : AreOf (held p s changes.known changes.read) changes.arguments changes.options changes.feeds
  pub asked : feeds_asked p s hs ≡ map (asked_for (held p s changes.known changes.read)) changes.feeds.openings
  pub opened : List Open
  pub each : AreOpened changes.feeds.openings changes.replies opened
  pub told : outcome ≡ feed (map (arm_of (held p s changes.known changes.read)) opened) (notes_of changes.feeds) (first_items changes.feeds.told opened)

abbrev pub FeedsEndWithTheirOwn : Type 0
FeedsEndWithTheirOwn = (p : Plan) (s : Setting) (hs : List Heard) (arms : List Arm) (notes : List ℕ) (items : List Item) → is_asked p.term ≡ true → plan_fault p.term ≡ None
    → plan_next p s hs ≡ answered (feed arms notes items) → EndsWithItsOwn p s hs (feed arms notes items)
