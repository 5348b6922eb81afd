-- Where the feed of a token is closed, its client is told so: by a fault, or by the answer to a STOP.
use Rattle.std.specs.Prelude.{◌≡◌, ◌⊎◌, ℕ, true, List, [], ◌∷◌, ◌++◌, Option, Some, None}
use Rattle.std.specs.List.{AllByRecursion}
use Rattle.reql_wire.specs.declared.frame.Frame.{Frame}
use Rattle.reql_session_spec.specs.Requests.{Stop, Arm, Shown, Feed, Answer, Failed, Internal}
use Rattle.reql_session_spec.specs.Tasks.{Talk, Task, Telling, Closing}
use Rattle.reql_session_spec.specs.Session.{Event, Begin, Say, Doing, Busy, Mach, fresh, PlanEnds, Step, Run}
use Rattle.reql_session_spec.specs.Owed.{IsHere}
use Rattle.reql_session_spec.specs.Printed.{IsOpenAt}

-- a fault of running, or want of memory
abbrev pub IsFault : Answer → Type 0
IsFault (Failed error text s) = Unit {0}
IsFault Internal = Unit {0}
IsFault other = ⊥

-- no frame is begun with
abbrev pub BeginsNone : Event → Type 0
BeginsNone (Begin frame is_read) = ⊥
BeginsNone e = Unit {0}

module _ {PL : Type 0} (k : Talk PL) where
  -- the last frame that was begun with is a STOP of this token
  pub record IsStopped (token : ℕ) (es : List Event) : Type 0 where
    pub before : List Event
    pub frame : Frame
    pub since : List Event
    pub events : es ≡ before ++ Begin frame true ∷ since
    pub its : frame.token ≡ token
    pub asks : k.asked frame.body ≡ Stop
    pub none : AllByRecursion BeginsNone since

  -- what a token is told at the end of its feed, now or after the feed's arms are closed
  abbrev pub Ends : ℕ → List Event → Option Answer → Type 0
  Ends token es None = ⊥
  Ends token es (Some a) = IsFault a ⊎ IsStopped token es

  abbrev pub TaskEnds : ℕ → List Event → Task PL → Type 0
  TaskEnds token es (Telling t a kept lose after) = (t ≡ token) × Ends token es (Some a)
  TaskEnds token es (Closing t arms firm a) = (t ≡ token) × Ends token es a
  TaskEnds token es other = ⊥

  abbrev pub DoingEnds : ℕ → List Event → Doing PL → Type 0
  DoingEnds token es (Busy back task) = TaskEnds token es task
  DoingEnds token es other = ⊥

  -- a fault was told with it
  abbrev pub EventEnds : ℕ → Event → Type 0
  EventEnds token (Say t a true) = (t ≡ token) × IsFault a
  EventEnds token e = ⊥

  -- While a session goes on, the open feed of a token is closed by a step only if a fault was told with the token by that step, or a
  -- fault, or the answer to a STOP that was the last frame, is next to be told with it. It rules out a feed that is let go with what
  -- its Takes gave, or that ends for its client as a stream does.
  abbrev pub FeedsEnd : Type 0
  FeedsEnd = (es : List Event) (m n : Mach PL) (e : Event) → Run k fresh es m → Step k m e n → (token : ℕ) → IsOpenAt token m → IsHere n.doing → (IsOpenAt token n → ⊥)
      → DoingEnds token (es ++ e ∷ []) n.doing ⊎ EventEnds token e

  -- a fault is next to be told with a token, now or after arms are closed
  abbrev pub IsFaultThere : Option Answer → Type 0
  IsFaultThere None = ⊥
  IsFaultThere (Some a) = IsFault a

  abbrev pub TaskFaults : ℕ → Task PL → Type 0
  TaskFaults token (Telling t a kept lose after) = (t ≡ token) × IsFault a
  TaskFaults token (Closing t arms firm a) = (t ≡ token) × IsFaultThere a
  TaskFaults token other = ⊥

  abbrev pub DoingFaults : ℕ → Doing PL → Type 0
  DoingFaults token (Busy back task) = TaskFaults token task
  DoingFaults token other = ⊥

  -- Where a plan comes to a feed, its token has an open feed from there on, or a fault is next to be told with it.
  abbrev pub FeedsOpen : Type 0
  FeedsOpen = (m n : Mach PL) (p : PlanEnds k m n) (arms : List Arm) (notes : List ℕ) (items : List Shown) → p.to ≡ Feed arms notes items → IsOpenAt p.token n ⊎ DoingFaults p.token n.doing
