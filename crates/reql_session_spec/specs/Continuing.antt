-- What a CONTINUE on a feed is answered: items, or why there are none.
use Rattle.std.specs.Prelude.{◌≡◌, ◌⊎◌, ◌≤◌, ℕ, Bool, true, false, List, [], ◌∷◌, ◌++◌, take, drop, length, Option, Some, None}
use Rattle.std.specs.List.{AllByRecursion}
use Rattle.reql_datum.specs.Plain.{Plain}
use Rattle.reql_answer.specs.Body.{Stamped}
use Rattle.reql_answer.specs.declared.error.ErrorType.TheVariants as errors
use Rattle.reql_shared.specs.Acts.{Ran, Denied}
use Rattle.reql_table_machine_spec.specs.declared.command.Said.{Said}
use Rattle.reql_table_machine_spec.specs.declared.command.Said.TheVariants as said
use Rattle.reql_write_spec.specs.declared.command.Summary.{Summary}
use Rattle.reql_table_spec.specs.Replies.{Answered as Told}
use Rattle.reql_table_spec.specs.declared.reply.Saved.{Saved}
use Rattle.reql_session_spec.specs.Requests.{Arm, Shown, Answer, Failed, Internal, Batch}
use Rattle.reql_session_spec.specs.Books.{Open, Books, has_token, cursor_of, feed_of}
use Rattle.reql_session_spec.specs.Bodies.{full}
use Rattle.reql_session_spec.specs.Tasks.{Talk, is_long, skipped_item, change_items, fitted, take_order}
use Rattle.reql_session_spec.specs.Session.{Event, Turn, Visit, Begin, On, Say, Want, Doing, Busy, Mach, Step, Run}
use Rattle.reql_session_spec.specs.Opened.{TookArm}
use Rattle.reql_session_spec.specs.Waiting.{IsVisited, IsNothing}

-- no turn and no visit begins, no frame is taken, and no answer is sent
abbrev pub IsWithin : Event → Type 0
IsWithin Turn = ⊥
IsWithin Visit = ⊥
IsWithin (Begin frame is_read) = ⊥
IsWithin (Say token a whole) = ⊥
IsWithin e = Unit {0}

-- no task is under way
abbrev pub IsFree : {PL : Type 0} → Doing PL → Type 0
IsFree (Busy back task) = ⊥
IsFree other = Unit {0}

-- these events are one Take of each of these arms, in their order, of so many items at most, and each found nothing
abbrev pub TookNothing : ℕ → List Arm → List Event → Type 0
TookNothing max [] es = es ≡ []
TookNothing max (arm ∷ arms) es = (place : ℕ) × (reply : Told) × (kept : Saved) × (more : List Event) × (es ≡ On arm.slot (Ran place (take_order arm.feed max) reply) kept ∷ more) × IsNothing reply.said × TookNothing max arms more

-- they begin with Takes of the arms, in their order, each of which found nothing, up to one that was answered so
pub record TookFirst (arms : List Arm) (max : ℕ) (answer : Said Summary Plain) (es : List Event) : Type 0 where
  pub took : TookArm arms max answer es
  pub firsts : TookNothing max took.prior took.took.before

-- memory was wanted, of the session or of a table
abbrev pub IsWanting : Event → Type 0
IsWanting (On slot (Denied place) saved) = Unit {0}
IsWanting Want = Unit {0}
IsWanting e = ⊥

pub record WasWanted (es : List Event) : Type 0 where
  pub before : List Event
  pub event : Event
  pub after : List Event
  pub events : es ≡ before ++ event ∷ after
  pub is : IsWanting event

-- The items of a batch that a Take of the feed's first arm that has any gave, with what it tells of skipped ones, and the rest.
pub record IsTaken (feed : Open) (items rest : List Shown) (es : List Event) : Type 0 where
  pub skipped : ℕ
  pub last : ℕ
  pub changes : List (ℕ × Plain)
  pub took : TookFirst feed.arms feed.batch (said.Batch skipped last changes) es
  pub given : items ≡ skipped_item (length took.took.prior) took.took.arm skipped last ++ take feed.batch (change_items (length took.took.prior) took.took.arm changes)
  pub left : rest ≡ drop feed.batch (change_items (length took.took.prior) took.took.arm changes)

module _ {PL : Type 0} (k : Talk PL) where
  -- A batch, or the fault of one that is too long, of items that were left of the feed, or where nothing was left of what the first
  -- Take that found something gave. There is an item at least where batches of the feed have one. When the batch was told the feed
  -- is open still, with the rest left.
  pub record TellsItems (feed : Open) (a : Answer) (es : List Event) (b : Books) : Type 0 where
    pub items : List Shown
    pub rest : List Shown
    pub points : Option Stamped
    pub is : a ≡ fitted k (Batch feed.notes items points)
    pub some : 1 ≤ feed.batch → items ≡ [] → ⊥
    pub source : ((feed.left ≡ [] → ⊥) × (items ≡ take feed.batch feed.left) × (rest ≡ drop feed.batch feed.left)) ⊎ ((feed.left ≡ []) × IsTaken feed items rest es)
    pub kept : is_long k (Batch feed.notes items points) ≡ false → feed_of feed.token b.feeds ≡ Some (record feed { left = rest })

  -- the fault that tells of a dropped table, where a Take of an arm was told so
  pub record TellsDropped (feed : Open) (a : Answer) (es : List Event) : Type 0 where
    pub points : Stamped
    pub took : TookFirst feed.arms feed.batch said.Gone es
    pub is : a ≡ fitted k (Failed errors.OpFailed took.took.arm.dropped (Some points))

  -- or of a full history
  pub record TellsFull (feed : Open) (a : Answer) (es : List Event) : Type 0 where
    pub count : ℕ
    pub took : TookFirst feed.arms feed.batch (said.HistoryFull count) es
    pub is : a ≡ fitted k (Failed errors.ResourceLimit full None)

  -- An answer to a CONTINUE on the feed, that these events led to, with what is kept after it: items, the fault of a dropped table
  -- or of a full history, or INTERNAL where memory was wanted.
  abbrev pub IsAnswer : Open → Answer → List Event → Books → Type 0
  IsAnswer feed a es b = TellsItems feed a es b ⊎ (TellsDropped feed a es ⊎ (TellsFull feed a es ⊎ ((a ≡ Internal) × WasWanted es)))

  -- a CONTINUE that is taken up is of no cursor, and none of its token waits
  abbrev pub IsItsFirst : ℕ → Mach PL → Event → Type 0
  IsItsFirst token m (Begin frame is_read) = (cursor_of token m.books.cursors ≡ None) × (has_token token m.books.waiting ≡ false)
  IsItsFirst token m e = Unit {0}

  -- Where a CONTINUE on an open feed is visited, the next answer, with no turn, further visit or frame before it, has its token and
  -- is such a one: none tells of nothing where batches of the feed have an item, none tells of items that were neither left nor
  -- taken, and none is a fault for which there was no cause. With it the visit is over, so that nobody else is answered within it;
  -- and where a batch was sent whole the feed is open still, with the rest left. (A STOP answers one that waits by `Last`.)
  abbrev pub EachContinues : Type 0
  EachContinues = (m x y z : Mach PL) (token : ℕ) (feed : Open) (first : Event) (es : List Event) (t : ℕ) (a : Answer) (whole : Bool)
      → IsVisited k token m first → IsItsFirst token m first → feed_of token m.books.feeds ≡ Some feed
      → Step k m first x → Run k x es y → AllByRecursion IsWithin es → Step k y (Say t a whole) z
      → (t ≡ token) × IsFree z.doing × (b : Books) × (whole ≡ true → z.books ≡ b) × IsAnswer feed a es b
