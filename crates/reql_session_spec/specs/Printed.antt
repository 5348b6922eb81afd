-- All that is said of a feed: its plan's first items, and then what its Takes gave, as it is printed.
use Rattle.std.specs.Prelude.{◌≡◌, ◌⊎◌, ◌≤◌, ℕ, length, suc, nat_eq, Bool, true, false, ◌&&◌, ◌||◌, cond, List, [], ◌∷◌, ◌++◌, flat_map, Option, Some, None, is_some}
use Rattle.std.specs.List.{AllByRecursion}
use Rattle.reql_answer.specs.Body.{Stamped}
use Rattle.reql_datum.specs.Plain.{Plain}
use Rattle.reql_shared.specs.Acts.{Ran}
use Rattle.reql_table_machine_spec.specs.declared.command.Said.{Said}
use Rattle.reql_table_machine_spec.specs.declared.command.Said.TheVariants as said
use Rattle.reql_write_spec.specs.declared.command.Summary.{Summary}
use Rattle.reql_table_spec.specs.declared.command.Cmd.{Cmd}
use Rattle.reql_table_spec.specs.declared.command.Cmd.TheVariants as cmds
use Rattle.reql_table_spec.specs.declared.command.Order.{Order}
use Rattle.reql_table_spec.specs.declared.reply.Saved.{Saved}
use Rattle.reql_table_spec.specs.Replies.{Answered as Told}
use Rattle.reql_session_spec.specs.Requests.{Arm, Shown, Feed, Answer, Batch}
use Rattle.reql_session_spec.specs.Books.{Open, has_token, feed_of}
use Rattle.reql_session_spec.specs.Tasks.{Talk, Task, Visiting, Telling, skipped_item, change_items}
use Rattle.reql_session_spec.specs.Minding.{has_arm, are_apart}
use Rattle.reql_session_spec.specs.Session.{Event, On, Come, Say, Doing, Busy, Mach, fresh, PlanEnds, Step, Run}
use Rattle.reql_session_spec.specs.Owed.{keeps, IsHere}

-- the printed items of an answer, and all those that were said with a token, whatever they are and of whatever arm
abbrev pub items_in : Answer → List Shown
items_in (Batch notes xs s) = xs
items_in other = []

abbrev pub said_by : ℕ → Event → List Shown
said_by token (Say t a true) = cond (nat_eq t token) (items_in a) []
said_by token e = []

abbrev pub all_said : ℕ → List Event → List Shown
all_said token es = flat_map (said_by token) es

-- a batch that is said with a token has these notes
abbrev pub AreNotes : List ℕ → Answer → Type 0
AreNotes notes (Batch ns xs s) = ns ≡ notes
AreNotes notes other = Unit {0}

abbrev pub HasNotes : ℕ → List ℕ → Event → Type 0
HasNotes token notes (Say t a whole) = nat_eq t token ≡ true → AreNotes notes a
HasNotes token notes e = Unit {0}

-- what a Take's answer gives of an arm with a number, printed: the item of a skip, and then the items of its batch
abbrev pub printed : ℕ → Arm → Said Summary Plain → List Shown
printed at arm (said.Batch skipped last items) = skipped_item at arm skipped last ++ change_items at arm items
printed at arm other = []

-- of the arm that is there, whose number is its place among the arms
abbrev pub printed_from : ℕ → List Arm → ℕ → ℕ → Said Summary Plain → List Shown
printed_from at [] slot feed s = []
printed_from at (arm ∷ arms) slot feed s = cond (nat_eq arm.slot slot && nat_eq arm.feed feed) (printed at arm s) (printed_from (suc at) arms slot feed s)

abbrev pub given_by : List Arm → ℕ → Cmd → Said Summary Plain → List Shown
given_by arms slot (cmds.Take feed max) s = printed_from 0 arms slot feed s
given_by arms slot other s = []

-- what is left of a feed, where there is one
abbrev pub left_of : Option Open → List Shown
left_of None = []
left_of (Some f) = f.left

module _ {PL : Type 0} where
  -- a feed's Takes are those that its token's CONTINUE asks for
  abbrev pub task_asks : ℕ → Task PL → Bool
  task_asks token (Visiting t arms points) = nat_eq t token
  task_asks token other = false

  abbrev pub is_asking : ℕ → Doing PL → Bool
  is_asking token (Busy back task) = task_asks token task
  is_asking token other = false

  abbrev pub taken_at : ℕ → List Arm → Doing PL → Event → List Shown
  taken_at token arms d (On slot (Ran place order reply) saved) = cond (is_asking token d) (given_by arms slot order.cmd reply.said) []
  taken_at token arms d e = []

  -- what the answer that is being told has for a token
  abbrev pub task_says : ℕ → Task PL → List Shown
  task_says token (Telling t a kept lose after) = cond (nat_eq t token) (items_in a) []
  task_says token other = []

  abbrev pub saying : ℕ → Doing PL → List Shown
  saying token (Busy back task) = task_says token task
  saying token other = []

  -- what is still to be said with a token: in the answer that is being told, and then what is left of its feed
  abbrev pub due : ℕ → Mach PL → List Shown
  due token m = saying token m.doing ++ left_of (feed_of token (keeps m.books m.doing).feeds)

  -- the token has an open feed, in the books or in those that are kept after the answer that is being told, and the session goes on
  abbrev pub IsOpenAt : ℕ → Mach PL → Type 0
  IsOpenAt token m = IsHere m.doing × ((is_some (feed_of token m.books.feeds) || is_some (feed_of token (keeps m.books m.doing).feeds)) ≡ true)

module _ {PL : Type 0} (k : Talk PL) where
  -- a run at each point of which the token has an open feed
  abbrev pub StaysOpen : ℕ → Mach PL → List Event → Mach PL → Type 0
  StaysOpen token m [] n = (n ≡ m) × IsOpenAt token m
  StaysOpen token m (e ∷ es) n = IsOpenAt token m × (x : Mach PL) × Step k m e x × StaysOpen token x es n

  -- what the Takes of its feed gave meanwhile
  abbrev pub all_given : (token : ℕ) (arms : List Arm) (m : Mach PL) (es : List Event) (n : Mach PL) → StaysOpen token m es n → List Shown
  all_given token arms m [] n s = []
  all_given token arms m (e ∷ es) n s = taken_at token arms m.doing e ++ all_given token arms s.1 es n s.3

  -- These events, which led here, have one where a plan came to a feed on a token, with each of its arms once, and it has been open
  -- ever since. All that was said with the token from there on, and then what is still to be said, is the plan's first items and then
  -- what the feed's Takes gave, in order: each item as it is printed, with its arm, the place of this among the plan's arms, its sort,
  -- its stamp and its text. And each batch has the plan's notes.
  pub record IsTold (token : ℕ) (es : List Event) (m : Mach PL) : Type 0 where
    pub before : List Event
    pub after : List Event
    pub start : Mach PL
    pub next : Mach PL
    pub events : es ≡ before ++ Come ∷ after
    pub led : Run k fresh before start
    pub comes : PlanEnds k start next
    pub its : comes.token ≡ token
    pub arms : List Arm
    pub notes : List ℕ
    pub items : List Shown
    pub feed : comes.to ≡ Feed arms notes items
    pub apart : are_apart arms ≡ true
    pub stays : StaysOpen token next after m
    pub said : all_said token after ++ due token m ≡ items ++ all_given token arms next after m stays
    pub noted : AllByRecursion (HasNotes token notes) after

  -- So it is wherever a token has an open feed. It rules out that an item is left out, said twice, out of order, of another arm, or
  -- under another sort or number, that anything is said of a feed which neither its plan nor its Takes gave, and that what they gave
  -- is neither said nor kept.
  abbrev pub FeedsAreTold : Type 0
  FeedsAreTold = (es : List Event) (m : Mach PL) → Run k fresh es m → (token : ℕ) → IsOpenAt token m → IsTold token es m

  -- And a batch is said only with a token that has an open feed.
  abbrev pub BatchesAreOfFeeds : Type 0
  BatchesAreOfFeeds = (es : List Event) (m n : Mach PL) → Run k fresh es m → (token : ℕ) (notes : List ℕ) (xs : List Shown) (s : Option Stamped) (whole : Bool)
      → Step k m (Say token (Batch notes xs s) whole) n → IsOpenAt token m

  -- Behind a batch that is said nothing is left, or it has as many items as a batch of its feed may have. So none is empty while
  -- something is still to be said, unless batches are to have no items.
  abbrev pub BatchesAreFull : Type 0
  BatchesAreFull = (es : List Event) (m n : Mach PL) → Run k fresh es m → (token : ℕ) (notes : List ℕ) (xs : List Shown) (s : Option Stamped) → Step k m (Say token (Batch notes xs s) true) n
      → (f : Open) → feed_of token n.books.feeds ≡ Some f → (f.left ≡ []) ⊎ (f.batch ≤ length xs)

  -- And every Take is of such a feed: it is asked for by a token whose open feed has that arm.
  abbrev pub TakesAreOfFeeds : Type 0
  TakesAreOfFeeds = (es : List Event) (m n : Mach PL) → Run k fresh es m → (slot place : ℕ) (order : Order) (reply : Told) (saved : Saved) → Step k m (On slot (Ran place order reply) saved) n
      → (feed max : ℕ) → order.cmd ≡ cmds.Take feed max → (token : ℕ) × (is_asking token m.doing ≡ true) × (t : IsTold token es m) × (has_arm slot feed t.arms ≡ true)

  -- Wherever a token waits, all of its feed was said: its plan's first items, and what its Takes gave.
  abbrev pub AllIsSaid : Type 0
  AllIsSaid = (es : List Event) (m : Mach PL) → Run k fresh es m → (token : ℕ) → has_token token m.books.waiting ≡ true → IsOpenAt token m → due token m ≡ []
