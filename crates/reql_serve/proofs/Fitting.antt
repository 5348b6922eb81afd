-- A session at a seat, by what handles frames says of itself.
use Rattle.std.proofs.Common.{◌≡◌, ℕ, ℤ, List, Option, Some, None, sym, subst, ◌∙◌}
use Rattle.reql_outside.specs.Source.{Source}
use Rattle.reql_outside.specs.Tape.{Tape}
use Rattle.reql_net.specs.Doors.{DoorTold}
use Rattle.reql_hall.specs.Rooms.{Rooms}
use Rattle.reql_catalog.specs.declared.catalog.Catalog.{Catalog}
use Rattle.reql_table_spec.specs.Machine.{State}
use Rattle.reql_session_spec.specs.Tasks.{Talk}
use Rattle.reql_session_spec.specs.declared.end.End.{End}
use Rattle.reql_turns.specs.Running.{GoesOn, StepsFrom}
use Rattle.reql_session.specs.declared.session.Session.{Session}
use Rattle.reql_serve.specs.Seats.{Serves, HasLeft}
use Rattle.reql_serve.specs.Sessions.{at_work, IsFit, IsReady}
use Rattle.reql_serve.specs.declared.sitting.Sitting.{Sitting}
use Rattle.reql_serve.specs.declared.worker.Worker.{Worker}
use Rattle.reql_serve.specs.declared.worker.WorkState.TheVariants as state
use Rattle.reql_serve.proofs.Seated.{There, serves_turn, serves_last}

module _ {PL Q C P D T V X Y : Type 0} (talk : P → Talk PL) (hall : Rooms State Catalog) (k : Talk PL) where
  pub its_hall : (h : Session Q C P D T V X Y) → IsFit talk hall k h → h.hall.now ≡ hall
  its_hall h f = f.0

  pub its_talk : (h : Session Q C P D T V X Y) → IsFit talk hall k h → talk h.planner.now ≡ k
  its_talk h f = f.1

  pub its_ready : (h : Session Q C P D T V X Y) → IsFit talk hall k h → IsReady h
  its_ready h f = f.2

  fits_still : (s t : Session Q C P D T V X Y) → IsFit talk hall k s → IsReady t → t.hall.now ≡ s.hall.now → talk t.planner.now ≡ talk s.planner.now → IsFit talk hall k t
  fits_still s t f r h e = (h ∙ its_hall s f, e ∙ its_talk s f, r)

  module _ {L : Type 0} (some : State) (heard : L → Tape) (told : T → Source ℤ) (rolled : D → Source (List ℕ)) where
    pub its_turns : (s : Sitting (Session Q C P D T V X Y) L) → IsFit talk hall k s.handler → GoesOn k heard (at_work some told rolled s.handler) s.running
        → GoesOn (talk s.handler.planner.now) heard (at_work some told rolled s.handler) s.running
    its_turns s f on = subst (λ z. GoesOn z heard (at_work some told rolled s.handler) s.running) (sym (its_talk s.handler f)) on

module _ {PL Q C P D T V X Y G L W R : Type 0} (talk : P → Talk PL) (some : State) (tape : R → Tape) (heard : L → Tape) (told : T → Source ℤ) (rolled : D → Source (List ℕ)) (door : G → DoorTold) (hall : Rooms State Catalog) (k : Talk PL) where
  abbrev ItsSeat : Worker C G D T V L W R → Sitting (Session Q C P D T V X Y) L → Type 0
  ItsSeat w s = There k some tape heard told rolled door (at_work some told rolled) (IsFit talk hall k) hall w s

  -- a turn went by
  pub went_on : (w : Worker C G D T V L W R) (s t : Sitting (Session Q C P D T V X Y) L) (before : Option (Sitting (Session Q C P D T V X Y) L)) (end : Option End) → before ≡ Some s → w.state ≡ state.Ready → ItsSeat w s
      → IsReady t.handler → t.handler.hall.now ≡ s.handler.hall.now → talk t.handler.planner.now ≡ talk s.handler.planner.now
      → StepsFrom (talk s.handler.planner.now) heard (at_work some told rolled s.handler) s.running (at_work some told rolled t.handler) t.running end → end ≡ None
      → Serves k some tape heard told rolled door (at_work some told rolled) (IsFit talk hall k) hall w before w (Some t)
  went_on w s t before end is e there ready h same steps none =
      serves_turn k some tape heard told rolled door (at_work some told rolled) (IsFit talk hall k) hall w s t before is e (fits_still talk hall k s.handler t.handler there.fits ready h same)
      (subst (λ (z : Talk PL × Option End). StepsFrom z.0 heard (at_work some told rolled s.handler) s.running (at_work some told rolled t.handler) t.running z.1) (λ i. (its_talk talk hall k s.handler there.fits i, none i)) steps)

  -- it was the last, and the client left
  pub went_away : (w v : Worker C G D T V L W R) (s t : Sitting (Session Q C P D T V X Y) L) (before : Option (Sitting (Session Q C P D T V X Y) L)) (end : Option End) (last : End) → before ≡ Some s → w.state ≡ state.Ready → ItsSeat w s
      → t.handler.hall.now ≡ s.handler.hall.now → talk t.handler.planner.now ≡ talk s.handler.planner.now
      → StepsFrom (talk s.handler.planner.now) heard (at_work some told rolled s.handler) s.running (at_work some told rolled t.handler) t.running end → end ≡ Some last
      → HasLeft (talk t.handler.planner.now) some tape heard told rolled door (at_work some told rolled) (IsFit talk t.handler.hall.now (talk t.handler.planner.now)) t.handler.hall.now w t last v
      → Serves k some tape heard told rolled door (at_work some told rolled) (IsFit talk hall k) hall w before v None
  went_away w v s t before end last is e there h same steps some_end left =
      serves_last k some tape heard told rolled door (at_work some told rolled) (IsFit talk hall k) hall w v s t last before is e
      (subst (λ (z : Talk PL × Option End). StepsFrom z.0 heard (at_work some told rolled s.handler) s.running (at_work some told rolled t.handler) t.running z.1) (λ i. (its_talk talk hall k s.handler there.fits i, some_end i)) steps)
      (subst (λ (z : Talk PL × Rooms State Catalog). HasLeft z.0 some tape heard told rolled door (at_work some told rolled) (IsFit talk z.1 z.0) z.1 w t last v) (λ i. ((same ∙ its_talk talk hall k s.handler there.fits) i, (h ∙ its_hall talk hall k s.handler there.fits) i)) left)
