-- Whose an open feed is: that of a START of its token, as its plan ended; and what is left of it.
use Rattle.std.specs.Prelude.{◌≡◌, ◌⊎◌, ℕ, nat_eq, Bool, true, false, List, [], ◌∷◌, ◌++◌, flat_map, length}
use Rattle.std.specs.List.{AllByRecursion}
use Rattle.reql_datum.specs.Plain.{Plain}
use Rattle.reql_wire.specs.declared.frame.Frame.{Frame}
use Rattle.reql_shared.specs.Acts.{Ran, Looked}
use Rattle.reql_table_machine_spec.specs.declared.command.Said.{Said}
use Rattle.reql_table_machine_spec.specs.declared.command.Said.TheVariants as said
use Rattle.reql_write_spec.specs.declared.command.Summary.{Summary}
use Rattle.reql_table_spec.specs.Replies.{Answered as Told}
use Rattle.reql_table_spec.specs.declared.reply.Saved.{Saved}
use Rattle.reql_session_spec.specs.Requests.{Arm, Start, Shown, Feed, Ends, Found, SawNames, Clocked, SawSlot, RanSlot, ChangedNames, Rolled}
use Rattle.reql_session_spec.specs.Books.{Open, is_open, opened}
use Rattle.reql_session_spec.specs.Tasks.{Talk, batch_size, take_order, change_items}
use Rattle.reql_session_spec.specs.Session.{Event, Begin, On, OnNames, Clock, Dice, Come, Mach, fresh, Run, begun}

-- what an event finds for the plan that is under way
abbrev pub found_by : Event → List Found
found_by (On slot (Ran place order reply) saved) = RanSlot slot reply saved ∷ []
found_by (On slot (Looked place question look) saved) = SawSlot slot look ∷ []
found_by (OnNames (Ran place cmd reply)) = ChangedNames reply.place reply ∷ []
found_by (OnNames (Looked place question names)) = SawNames place names ∷ []
found_by (Clock moment) = Clocked moment ∷ []
found_by (Dice bytes) = Rolled bytes ∷ []
found_by e = []

abbrev pub found_in : List Event → List Found
found_in es = flat_map found_by es

-- ---- what Takes gave
-- these events have a Take of the arm, of so many items at most, that was answered so
pub record Took (arm : Arm) (max : ℕ) (answer : Said Summary Plain) (es : List Event) : Type 0 where
  pub before : List Event
  pub after : List Event
  pub place : ℕ
  pub reply : Told
  pub kept : Saved
  pub events : es ≡ before ++ On arm.slot (Ran place (take_order arm.feed max) reply) kept ∷ after
  pub says : reply.said ≡ answer

-- of one of these arms, behind others
pub record TookArm (arms : List Arm) (max : ℕ) (answer : Said Summary Plain) (es : List Event) : Type 0 where
  pub prior : List Arm
  pub arm : Arm
  pub rest : List Arm
  pub all : arms ≡ prior ++ arm ∷ rest
  pub took : Took arm max answer es

-- what is left behind a front
abbrev pub IsTail : List Shown → List Shown → Type 0
IsTail left items = (front : List Shown) × (items ≡ front ++ left)

-- a Take of one of these arms gave what is left, behind a front
pub record IsGiven (arms : List Arm) (max : ℕ) (left : List Shown) (es : List Event) : Type 0 where
  pub skipped : ℕ
  pub last : ℕ
  pub changes : List (ℕ × Plain)
  pub took : TookArm arms max (said.Batch skipped last changes) es
  pub tail : IsTail left (change_items (length took.prior) took.arm changes)

-- no two of these feeds have a token in common
abbrev pub AreApart : List Open → Type 0
AreApart [] = Unit {0}
AreApart (f ∷ fs) = AllByRecursion (λ (g : Open). nat_eq g.token f.token ≡ false) fs × AreApart fs

module _ {PL : Type 0} (k : Talk PL) where
  -- These events, which led here, have a START of the token, which had nothing open then, for this plan, as the last frame that was
  -- taken; since then they found just this for the plan. So many cursors and feeds were open when it was taken up.
  pub record IsPlanned (token : ℕ) (plan : PL) (noreply : Bool) (count : ℕ) (found : List Found) (es : List Event) : Type 0 where
    pub before : List Event
    pub start : Mach PL
    pub frame : Frame
    pub during : List Event
    pub events : es ≡ before ++ Begin frame true ∷ during
    pub led : Run k fresh before start
    pub same : frame.token ≡ token
    pub asks : k.asked frame.body ≡ Start noreply plan
    pub free : is_open token start.books ≡ false
    pub counts : count ≡ opened start.books
    pub finds : found ≡ found_in during
    pub last : begun during ≡ []

  -- These events opened the feed: a plan that a START of its token asked for came to its end with the feed's arms and notes, and with
  -- these first items, and the feed's batches have that plan's size. What is left of it is a tail of these first items, or of the
  -- changes that a Take of one of its arms gave since.
  pub record IsOpened (feed : Open) (es : List Event) : Type 0 where
    pub before : List Event
    pub after : List Event
    pub events : es ≡ before ++ Come ∷ after
    pub plan : PL
    pub noreply : Bool
    pub count : ℕ
    pub found : List Found
    pub planned : IsPlanned feed.token plan noreply count found before
    pub items : List Shown
    pub ends : k.next plan noreply count found ≡ Ends (Feed feed.arms feed.notes items)
    pub batch : feed.batch ≡ batch_size k plan
    pub left : IsTail feed.left items ⊎ IsGiven feed.arms feed.batch feed.left after

  -- Along every run each feed that is open is that of a plan of its own token, and no two have a token in common: none has arms,
  -- notes or batches of another plan, less arms than its plan came to, or more, nor is anything left of it that isn't its own.
  abbrev pub EachIsOpened : Type 0
  EachIsOpened = (es : List Event) (m : Mach PL) → Run k fresh es m → AllByRecursion (λ (f : Open). IsOpened f es) m.books.feeds × AreApart m.books.feeds
