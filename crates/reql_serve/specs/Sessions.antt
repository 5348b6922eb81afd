-- A session at a seat.
use Rattle.std.specs.Prelude.{◌≡◌, ◌≤◌, ℕ, ℤ, List, [], length}
use Rattle.reql_outside.specs.Source.{Source}
use Rattle.reql_hall.specs.Rooms.{Rooms, Sits}
use Rattle.reql_catalog.specs.declared.catalog.Catalog.{Catalog}
use Rattle.reql_table_spec.specs.Machine.{State}
use Rattle.reql_session_spec.specs.Tasks.{Talk}
use Rattle.reql_session_api.specs.World.{AtWork}
use Rattle.reql_open_cursors.specs.Kept.{books_of}
use Rattle.reql_session.specs.Keeping.{Keeps}
use Rattle.reql_session.specs.Settling.{working}
use Rattle.reql_session.specs.declared.session.Session.{Session}

module _ {R C P D T V X Y : Type 0} where
  -- what it is at work with
  abbrev pub at_work : State → (T → Source ℤ) → (D → Source (List ℕ)) → Session R C P D T V X Y → AtWork
  at_work some told rolled s = working some s.desk (books_of s.shelf) (told s.clock) (rolled s.dice)

  -- it may be called
  abbrev pub IsReady : Session R C P D T V X Y → Type 0
  IsReady s = Sits s.hall.now s.desk × (s.slots ≤ length s.hall.now.slots) × Keeps (length s.hall.now.slots) [] (books_of s.shelf)

  -- at a desk of this hall, with this planning
  abbrev pub IsFit : {PL : Type 0} → (P → Talk PL) → Rooms State Catalog → Talk PL → Session R C P D T V X Y → Type 0
  IsFit talk hall k s = (s.hall.now ≡ hall) × (talk s.planner.now ≡ k) × IsReady s
