-- What a session asks of planning, and what it answers.
use Rattle.std.specs.Prelude.{ℕ, ℤ, nat_eq, nat_lt, List, [], ◌∷◌, Bool, cond, Option}
use Rattle.reql_datum.specs.Plain.{Plain}
use Rattle.reql_datum.specs.declared.point.Point.{Point}
use Rattle.reql_answer.specs.Body.{Stamped}
use Rattle.reql_answer.specs.declared.error.ErrorType.{ErrorType}
use Rattle.reql_catalog.specs.Catalog.{Named}
use Rattle.reql_catalog.specs.declared.command.CatCmd.{CatCmd}
use Rattle.reql_catalog.specs.declared.command.CatReply.{CatReply}
use Rattle.reql_table_spec.specs.Machine.{Seen}
use Rattle.reql_table_spec.specs.Replies.{Answered as Told}
use Rattle.reql_table_spec.specs.declared.command.Order.{Order}
use Rattle.reql_table_spec.specs.declared.reply.Saved.{Saved}

-- What a body asks for: it can't be read, or not be planned, with the text of the fault, and whether `noreply` is true; a
-- plan, with the same; or one of the words.
pub data Asked (PL : Type 0) : Type 0 where
  Unreadable : Bool → List ℕ → Asked PL
  Unplanned : Bool → List ℕ → Asked PL
  Start : Bool → PL → Asked PL
  Continue : Asked PL
  Stop : Asked PL
  NoreplyWait : Asked PL
  ServerInfo : Asked PL

-- an arm of a feed: its slot, the number of the feed there, and the text that tells that its table was dropped
pub record Arm : Type 0 where
  pub slot : ℕ
  pub feed : ℕ
  pub dropped : List ℕ

-- what a printed item of a feed is
pub data Sort : Type 0 where
  Opening : Sort
  State : Sort
  Skip : Sort
  Change : Sort

-- a printed item of a feed: the number of its arm, the arm, its stamp
pub record Shown : Type 0 where
  pub at : ℕ
  pub arm : Arm
  pub sort : Sort
  pub stamp : ℕ
  pub item : Plain

-- What a request comes to: nothing is sent; a printed value, a grouped one too; a stream; a feed, with its arms, its notes
-- and its printed opening and state items; a fault; or want of memory.
pub data Answered : Type 0 where
  Unsent : Answered
  One : Plain → Answered
  Stream : List Plain → Answered
  Feed : List Arm → List ℕ → List Shown → Answered
  Fault : ErrorType → List ℕ → Answered
  Wanting : Answered

-- a request's next move
pub data Move : Type 0 where
  LookNames : Move
  TellTime : Move
  LookSlot : ℕ → Move
  RunSlot : ℕ → Order → Move
  ChangeNames : CatCmd → Move
  Roll : Move
  Ends : Answered → Move

-- What a move found: the catalogue's place comes with what it answered, and whether a command was kept on disk with its
-- reply. A clock or dice that failed tell none.
pub data Found : Type 0 where
  SawNames : ℕ → Named → Found
  Clocked : Option ℤ → Found
  SawSlot : ℕ → Seen → Found
  RanSlot : ℕ → Told → Saved → Found
  ChangedNames : ℕ → CatReply → Found
  Rolled : Option (List ℕ) → Found

-- An answer: a fault of the client or of compiling, a fault of running, want of memory, one value, the last batch or a batch
-- of a stream, a batch of a feed, and the answers to NOREPLY_WAIT and SERVER_INFO; with the points that it names.
pub data Answer : Type 0 where
  Client : List ℕ → Answer
  Compile : List ℕ → Answer
  Failed : ErrorType → List ℕ → Option Stamped → Answer
  Internal : Answer
  Atom : Plain → Stamped → Answer
  Last : List Plain → Option Stamped → Answer
  Part : List Plain → Option Stamped → Answer
  Batch : List ℕ → List Shown → Option Stamped → Answer
  Waited : Answer
  Info : Answer

-- points rise by slot, and the last of a slot counts
abbrev pub put_point : Point → List Point → List Point
put_point p [] = p ∷ []
put_point p (q ∷ qs) = cond (nat_lt q.slot p.slot) (q ∷ put_point p qs) (p ∷ cond (nat_eq q.slot p.slot) qs (q ∷ qs))

abbrev pub point : ℕ → ℕ → ℕ → Point
point slot place stamp = record { slot = slot; place = place; stamp = stamp }

abbrev pub point_of : Found → List Point → List Point
point_of (SawSlot slot l) ps = put_point (point slot l.place l.stamp) ps
point_of (RanSlot slot r saved) ps = put_point (point slot r.place r.stamp) ps
point_of other ps = ps

abbrev pub points_from : List Point → List Found → List Point
points_from ps [] = ps
points_from ps (f ∷ fs) = points_from (point_of f ps) fs

abbrev pub stamped : ℕ → List Point → Stamped
stamped names points = record { catalogue = names; points = points }
