-- Whole talks with a session, for worked rows: requests with what their moves find, and what is asked and said.
use Rattle.std.specs.Prelude.{ℕ, zero, suc, List, [], ◌∷◌, ◌++◌, Bool, true, Option, Some, None}
use Rattle.reql_table_spec.specs.declared.command.Cmd.{Cmd}
use Rattle.reql_table_spec.specs.declared.command.Order.{Order}
use Rattle.reql_plan_spec.specs.declared.parts.Plan.{Plan}
use Rattle.reql_session_spec.specs.Requests.{Arm, Move, RunSlot, Ends, Found, SawNames, RanSlot, ChangedNames}
use Rattle.reql_session_spec.specs.Books.{Open, Books, feed_of, saw_names}
use Rattle.reql_session_spec.specs.Bodies.{body}
use Rattle.reql_session_spec.specs.Tasks.{Talk, Task, Planning, Visiting, Telling, Closing, Next, done, wanted, denied, told, takes_up, visit, comes_to, batch_size, found_more, ran, take_order, close_order}

-- a line of a talk: a move that a session makes, or a body that it sends to a token
pub data Line : Type 0 where
  Asks : Move → Line
  Says : ℕ → List ℕ → Line

-- a part of a talk: a frame with a token and a body, or the visits of a turn; with what their moves find
pub data Turn : Type 0 where
  Frame : ℕ → List ℕ → List Found → Turn
  Visits : List Found → Turn

-- what is said in one step, what comes next, and what is still to be found
pub record Stepped : Type 0 where
  pub lines : List Line
  pub next : Next Plan
  pub left : List Found

pub record Talked : Type 0 where
  pub lines : List Line
  pub books : Books
  pub left : List Found

module _ (k : Talk Plan) where
  -- a plan's move with what it found
  abbrev pub found_by : Books → Task Plan → Move → Found → Next Plan
  found_by b t (RunSlot n order) (RanSlot slot r saved) = ran k b t slot order.cmd r saved
  found_by b t m (SawNames place ns) = found_more k (saw_names place b) t (SawNames place ns)
  found_by b t m (ChangedNames place r) = found_more k (saw_names place b) t (ChangedNames place r)
  found_by b t m x = found_more k b t x

  -- a command of the session's own with its reply
  abbrev pub ran_by : Books → Task Plan → Cmd → Found → Next Plan
  ran_by b t cmd (RanSlot slot r saved) = ran k b t slot cmd r saved
  ran_by b t cmd x = wanted b t

  abbrev pub quietly : Next Plan → List Found → Stepped
  quietly n fs = record { lines = []; next = n; left = fs }

  -- where nothing more is found memory is wanted
  abbrev pub step_plan : Books → ℕ → Plan → Bool → ℕ → List Found → List Arm → Move → List Found → Stepped
  step_plan b token plan noreply count found arms (Ends a) fs = quietly (comes_to k b token (batch_size k plan) found arms a) fs
  step_plan b token plan noreply count found arms m [] = record { lines = Asks m ∷ []; next = wanted b (Planning token plan noreply count found arms); left = [] }
  step_plan b token plan noreply count found arms m (f ∷ fs) = record { lines = Asks m ∷ []; next = found_by b (Planning token plan noreply count found arms) m f; left = fs }

  abbrev pub step_own : Books → Task Plan → ℕ → Order → List Found → Stepped
  step_own b t slot order [] = record { lines = Asks (RunSlot slot order) ∷ []; next = denied b t slot order.cmd; left = [] }
  step_own b t slot order (f ∷ fs) = record { lines = Asks (RunSlot slot order) ∷ []; next = ran_by b t order.cmd f; left = fs }

  abbrev pub step_visit : Books → Task Plan → Arm → Option Open → List Found → Stepped
  step_visit b t arm None fs = quietly (done b) fs
  step_visit b t arm (Some f) fs = step_own b t arm.slot (take_order arm.feed f.batch) fs

  abbrev pub step_task : Books → Task Plan → List Found → Stepped
  step_task b (Planning token plan noreply count found arms) fs = step_plan b token plan noreply count found arms (k.next plan noreply count found) fs
  step_task b (Visiting token [] points) fs = quietly (done b) fs
  step_task b (Visiting token (arm ∷ arms) points) fs = step_visit b (Visiting token (arm ∷ arms) points) arm (feed_of token b.feeds) fs
  step_task b (Telling token a kept lose after) fs = record { lines = Says token (body a) ∷ []; next = told token kept after; left = fs }
  step_task b (Closing token [] firm a) fs = quietly (done b) fs
  step_task b (Closing token (arm ∷ arms) firm a) fs = step_own b (Closing token (arm ∷ arms) firm a) arm.slot (close_order arm.feed) fs

  abbrev pub step : Books → Option (Task Plan) → List Found → Stepped
  step b None fs = quietly (done b) fs
  step b (Some t) fs = step_task b t fs

  -- so many steps
  abbrev pub goes : ℕ → List Line → Next Plan → List Found → Talked
  goes zero lines n fs = record { lines = lines; books = n.books; left = fs }
  goes (suc m) lines n fs = let s : Stepped = step n.books n.task fs in goes m (lines ++ s.lines) s.next s.left

  abbrev pub visited : List Line → Books → List ℕ → List Found → Talked
  visited lines b [] fs = record { lines = lines; books = b; left = fs }
  visited lines b (token ∷ tokens) fs = let t : Talked = goes 12 lines (visit k b token) fs in visited t.lines t.books tokens t.left

  abbrev pub turned : List Line → Books → Turn → Talked
  turned lines b (Frame token text fs) = goes 12 lines (takes_up k b token text true) fs
  turned lines b (Visits fs) = visited lines (record b { waiting = [] }) b.waiting fs

  abbrev pub talked : List Line → Books → List Turn → Talked
  talked lines b [] = record { lines = lines; books = b; left = [] }
  talked lines b (t ∷ ts) = let x : Talked = turned lines b t in talked x.lines x.books ts

-- what a talk comes to from a session that keeps this
abbrev pub lines_of : Talk Plan → Books → List Turn → List Line
lines_of k b ts = (talked k [] b ts).lines
