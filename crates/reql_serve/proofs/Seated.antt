-- A seat from turn to turn.
use Rattle.std.proofs.Common.{◌≡◌, ◌≢◌, ℕ, ℤ, ◌+◌, ◌<◌, List, [], ◌∷◌, ◌++◌, length, Option, Some, None, refl, sym, ap, subst, ◌∙◌}
use Rattle.std.specs.Prelude.{Vec}
use Rattle.std.specs.declared.alloc.Global.{Global}
use Rattle.reql_outside.specs.Source.{Source}
use Rattle.reql_outside.specs.Tape.{Tape}
use Rattle.reql_net.specs.Doors.{DoorTold}
use Rattle.reql_hall.specs.Rooms.{Rooms, Sits}
use Rattle.reql_catalog.specs.declared.catalog.Catalog.{Catalog}
use Rattle.reql_table_spec.specs.Machine.{State}
use Rattle.reql_session_spec.specs.Books.{no_books}
use Rattle.reql_session_spec.specs.Tasks.{Talk}
use Rattle.reql_session_spec.specs.declared.end.End.{End}
use Rattle.reql_session_api.specs.World.{AtWork}
use Rattle.reql_turns.specs.Running.{SoFar, IsOn, GoesOn, HasEnded, StepsFrom}
use Rattle.reql_turns.specs.declared.running.Running.{Running}
use Rattle.reql_session.specs.Settling.{working}
use Rattle.reql_session.specs.declared.session.Bench.{Bench}
use Rattle.reql_serve.specs.Working.{outside, gave_more, left_by, SitsAt, StopsWith, WorkedSoFar}
use Rattle.reql_serve.specs.Seats.{Origin, IsStop, HasClient, IsServedSo, SeatSoFar, StandsSo, GoesOnSo, EndedSo, HasLeft, Holds, IsSeat, SameBench, Serves, Stopped, Waits}
use Rattle.reql_serve.specs.declared.sitting.Sitting.{Sitting}
use Rattle.reql_serve.specs.declared.worker.Member.{Member}
use Rattle.reql_serve.specs.declared.worker.Worker.{Worker}
use Rattle.reql_serve.specs.declared.worker.WorkState.{WorkState}
use Rattle.reql_serve.specs.declared.worker.WorkState.TheVariants as state
use Rattle.reql_serve.proofs.Working.{more_so_far, same_so_far, ends_with}

abbrev IsGoing : WorkState → Type 0
IsGoing state.Ready = Unit {0}
IsGoing end = ⊥

stop_share : (end : WorkState) (left : ℕ) → IsStop end → 0 < left → StopsWith end left
stop_share state.Ready left i lt = absurd i
stop_share state.Done left i lt = absurd i
stop_share state.Over left i lt = lt
stop_share state.Failed left i lt = lt
stop_share state.Memory left i lt = lt

never_ready : (end : WorkState) → IsStop end → end ≢ state.Ready
never_ready state.Ready i = absurd i
never_ready state.Done i = absurd i
never_ready state.Over i = λ e. absurd (subst IsStop e tt)
never_ready state.Failed i = λ e. absurd (subst IsStop e tt)
never_ready state.Memory i = λ e. absurd (subst IsStop e tt)

ready_done : state.Done ≡ state.Ready → ⊥
ready_done e = subst IsGoing (sym e) tt

-- a link that was looked at
module _ {PL L : Type 0} (k : Talk PL) (heard : L → Tape) where
  pub still : (start w : AtWork) (r : Running L) (l : L) → heard l ≡ heard r.link → IsOn k heard start w r → IsOn k heard start w (record r { link = l })
  still start w r l e on = subst (λ t. SoFar k start w t r.ears r.turns) (sym e) on

  pub goes_still : (w : AtWork) (r : Running L) (l : L) → heard l ≡ heard r.link → GoesOn k heard w r → GoesOn k heard w (record r { link = l })
  goes_still w r l e on = (on.0, still on.0 w r l e on.1)

  pub steps_still : (w : AtWork) (r : Running L) (l : L) → heard l ≡ heard r.link → StepsFrom k heard w r w (record r { link = l }) None
  steps_still w r l e start on = still start w r l e on

  pub steps_then : (w x : AtWork) (r s : Running L) (l : L) (end : Option End) → heard l ≡ heard r.link → StepsFrom k heard w (record r { link = l }) x s end → StepsFrom k heard w r x s end
  steps_then w x r s l end e f start on = f start (still start w r l e on)

module _ {PL R : Type 0} (k : Talk PL) (some : State) (tape : R → Tape) (hall : Rooms State Catalog) where
  pub held_on : (o : Origin) (left : ℕ) (members : List (Member R)) (door : DoorTold) (so then : AtWork → Type 0) → ((start : AtWork) → so start → then start)
      → HasClient k some tape hall o left members door so → HasClient k some tape hall o left members door then
  held_on o left members door so then f h = record { desk = h.desk; from = h.from; so_far = h.so_far; session = f (working some h.desk no_books h.from.clock h.from.dice) h.session; gave = h.gave; share = h.share }

  module _ {C D T V : Type 0} (told : T → Source ℤ) (rolled : D → Source (List ℕ)) where
    -- a client was served
    pub client_left : (o : Origin) (left next : ℕ) (before after : List (Member R)) (door is : DoorTold) (b : Bench C D T V) (m : Member R)
        → HasClient k some tape hall o left before door (λ start. IsServedSo k some tape told rolled start b m) → Sits hall b.desk → m.desk ≡ b.desk.names.number → after ≡ before ++ m ∷ [] → left ≡ next + 1 → is ≡ door
        → WorkedSoFar k some tape hall o.desk b.desk o.from (outside (told b.clock) (rolled b.dice) is) o.most next after
    client_left o left next before after door is b m h sits number a l d =
        more_so_far k some tape hall o.desk h.desk b.desk o.from h.from (outside (told b.clock) (rolled b.dice) is) o.most left next before after m h.so_far sits a
        (record { desk = number ∙ h.session.served.explained.names.number; books = h.session.books; served = h.session.served; door = d ∙ h.gave }) l

module _ {PL C G D T V L W R H : Type 0} (k : Talk PL) (some : State) (tape : R → Tape) (heard : L → Tape) (told : T → Source ℤ) (rolled : D → Source (List ℕ)) (door : G → DoorTold) (work : H → AtWork) (fit : H → Type 0) (hall : Rooms State Catalog) where
  -- what a seat is, by how its worker stands
  stands : (o : Origin) (w : Worker C G D T V L W R) (sitting : Option (Sitting H L)) (end : WorkState) → w.state ≡ end
      → SeatSoFar k some tape heard told rolled door work fit hall o w sitting → StandsSo k some tape heard told rolled door work fit hall o w end sitting
  unfolding SeatSoFar
  stands o w sitting end e s = subst (λ st. StandsSo k some tape heard told rolled door work fit hall o w st sitting) e s

  seats : (o : Origin) (w : Worker C G D T V L W R) (sitting : Option (Sitting H L)) (end : WorkState) → w.state ≡ end
      → StandsSo k some tape heard told rolled door work fit hall o w end sitting → SeatSoFar k some tape heard told rolled door work fit hall o w sitting
  unfolding SeatSoFar
  seats o w sitting end e s = subst (λ st. StandsSo k some tape heard told rolled door work fit hall o w st sitting) (sym e) s

  -- where nobody is
  pub waits : (o : Origin) (w : Worker C G D T V L W R) (b : Bench C D T V) → w.state ≡ state.Ready → w.bench ≡ Some b
      → SeatSoFar k some tape heard told rolled door work fit hall o w None → Waits k some tape heard told rolled door work fit hall o w b
  waits o w b e is s = subst (λ x. GoesOnSo k some tape heard told rolled door work fit hall o w x None) is (stands o w None state.Ready e s)

  pub seat_free : (o : Origin) (w : Worker C G D T V L W R) (b : Bench C D T V) → w.state ≡ state.Ready → w.bench ≡ Some b
      → Waits k some tape heard told rolled door work fit hall o w b → SeatSoFar k some tape heard told rolled door work fit hall o w None
  seat_free o w b e is s = seats o w None state.Ready e (subst (λ x. GoesOnSo k some tape heard told rolled door work fit hall o w x None) (sym is) s)

  -- where a client is
  pub holds : (o : Origin) (w : Worker C G D T V L W R) (s : Sitting H L) → w.state ≡ state.Ready → w.bench ≡ None
      → SeatSoFar k some tape heard told rolled door work fit hall o w (Some s) → GoesOnSo k some tape heard told rolled door work fit hall o w None (Some s)
  holds o w s e is h = subst (λ x. GoesOnSo k some tape heard told rolled door work fit hall o w x (Some s)) is (stands o w (Some s) state.Ready e h)

  -- a bench is there where nobody is, and none where a client is
  pub bench_there : (o : Origin) (w : Worker C G D T V L W R) → w.state ≡ state.Ready → SeatSoFar k some tape heard told rolled door work fit hall o w None → w.bench ≡ None → ⊥
  bench_there o w e s is = subst (λ x. GoesOnSo k some tape heard told rolled door work fit hall o w x None) is (stands o w None state.Ready e s)

  at_bench : (o : Origin) (w : Worker C G D T V L W R) (s : Sitting H L) (bench : Option (Bench C D T V)) → bench ≡ w.bench → GoesOnSo k some tape heard told rolled door work fit hall o w bench (Some s)
      → (w.bench ≡ None) × GoesOnSo k some tape heard told rolled door work fit hall o w None (Some s)
  at_bench o w s None is h = (sym is, h)
  at_bench o w s (Some b) is h = absurd h

  pub client_there : (o : Origin) (w : Worker C G D T V L W R) (s : Sitting H L) → w.state ≡ state.Ready → SeatSoFar k some tape heard told rolled door work fit hall o w (Some s)
      → (w.bench ≡ None) × GoesOnSo k some tape heard told rolled door work fit hall o w None (Some s)
  client_there o w s e h = at_bench o w s w.bench refl (stands o w (Some s) state.Ready e h)

  pub seat_taken : (o : Origin) (w : Worker C G D T V L W R) (s : Sitting H L) → w.state ≡ state.Ready → w.bench ≡ None
      → fit s.handler → Holds k some tape heard told rolled door work fit hall o w (λ start. IsOn k heard start (work s.handler) s.running) → SeatSoFar k some tape heard told rolled door work fit hall o w (Some s)
  seat_taken o w s e is f h = seats o w (Some s) state.Ready e (subst (λ x. GoesOnSo k some tape heard told rolled door work fit hall o w x (Some s)) (sym is) (f, h))

  -- nothing was used at the desk
  pub waits_on : (o : Origin) (w v : Worker C G D T V L W R) (b c : Bench C D T V) → Waits k some tape heard told rolled door work fit hall o w b
      → c.desk ≡ b.desk → told c.clock ≡ told b.clock → rolled c.dice ≡ rolled b.dice → door v.door ≡ door w.door → v.left ≡ w.left → v.ended.items ≡ w.ended.items → Waits k some tape heard told rolled door work fit hall o v c
  waits_on o w v b c h d t r g l m =
      same_so_far k some tape hall o.desk b.desk c.desk o.from (outside (told b.clock) (rolled b.dice) (door w.door)) (outside (told c.clock) (rolled c.dice) (door v.door)) o.most w.left v.left w.ended.items v.ended.items
      h d (λ i. outside (t i) (r i) (g i)) l m

  ended_so : (o : Origin) (v : Worker C G D T V L W R) (c : Bench C D T V) (sitting : Option (Sitting H L)) (end : WorkState) → end ≢ state.Ready → v.state ≡ end → v.bench ≡ Some c
      → EndedSo k some tape heard told rolled door work fit hall o v (Some c) → SeatSoFar k some tape heard told rolled door work fit hall o v sitting
  ended_so o v c sitting state.Ready ne e is h = absurd (ne refl)
  ended_so o v c sitting state.Done ne e is h = seats o v sitting state.Done e (subst (λ x. EndedSo k some tape heard told rolled door work fit hall o v x) (sym is) h)
  ended_so o v c sitting state.Over ne e is h = seats o v sitting state.Over e (subst (λ x. EndedSo k some tape heard told rolled door work fit hall o v x) (sym is) h)
  ended_so o v c sitting state.Failed ne e is h = seats o v sitting state.Failed e (subst (λ x. EndedSo k some tape heard told rolled door work fit hall o v x) (sym is) h)
  ended_so o v c sitting state.Memory ne e is h = seats o v sitting state.Memory e (subst (λ x. EndedSo k some tape heard told rolled door work fit hall o v x) (sym is) h)

  -- it takes no more clients
  stops_so : (o : Origin) (w v : Worker C G D T V L W R) (b c : Bench C D T V) (sitting : Option (Sitting H L)) (end : WorkState) → Waits k some tape heard told rolled door work fit hall o w b
      → c.desk ≡ b.desk → told c.clock ≡ told b.clock → rolled c.dice ≡ rolled b.dice → door v.door ≡ left_by end (door w.door) → v.left ≡ w.left → v.ended.items ≡ w.ended.items
      → StopsWith end w.left → end ≢ state.Ready → v.state ≡ end → v.bench ≡ Some c → SeatSoFar k some tape heard told rolled door work fit hall o v sitting
  stops_so o w v b c sitting end h d t r g l m stops ne e is =
      ended_so o v c sitting end ne e is
      (ends_with k some tape hall o.desk b.desk c.desk o.from (outside (told b.clock) (rolled b.dice) (door w.door)) (outside (told c.clock) (rolled c.dice) (door v.door)) o.most v.left w.ended.items v.ended.items v.state
      (same_so_far k some tape hall o.desk b.desk b.desk o.from (outside (told b.clock) (rolled b.dice) (door w.door)) (outside (told b.clock) (rolled b.dice) (door w.door)) o.most w.left v.left w.ended.items w.ended.items h refl refl l refl)
      m d (λ i. outside (t i) (r i) ((g ∙ ap (λ x. left_by x (door w.door)) (sym e)) i)) (subst (λ (z : WorkState × ℕ). StopsWith z.0 z.1) (λ i. (sym e i, sym l i)) stops))

  bench_at : (o : Origin) (w : Worker C G D T V L W R) (bench : Option (Bench C D T V)) → bench ≡ w.bench → GoesOnSo k some tape heard told rolled door work fit hall o w bench None
      → (b : Bench C D T V) × (w.bench ≡ Some b) × Waits k some tape heard told rolled door work fit hall o w b
  bench_at o w None is h = absurd h
  bench_at o w (Some b) is h = (b, sym is, h)

  -- a bench is there where nobody is
  pub free_there : (o : Origin) (w : Worker C G D T V L W R) → w.state ≡ state.Ready → SeatSoFar k some tape heard told rolled door work fit hall o w None
      → (b : Bench C D T V) × (w.bench ≡ Some b) × Waits k some tape heard told rolled door work fit hall o w b
  free_there o w e s = bench_at o w w.bench refl (stands o w None state.Ready e s)

  -- nobody was there
  pub nobody_came : (o : Origin) (w v : Worker C G D T V L W R) (b c : Bench C D T V) → w.state ≡ state.Ready → w.bench ≡ Some b → SeatSoFar k some tape heard told rolled door work fit hall o w None
      → SameBench told rolled b c → door v.door ≡ door w.door → v.left ≡ w.left → v.ended.items ≡ w.ended.items → v.state ≡ w.state → v.bench ≡ Some c → SeatSoFar k some tape heard told rolled door work fit hall o v None
  nobody_came o w v b c e is s same g l m st vs = seat_free o v c (st ∙ e) vs (waits_on o w v b c (waits o w b e is s) same.0 same.1 same.2 g l m)

  -- no more clients are taken, though some might be
  pub taken_no_more : (o : Origin) (w v : Worker C G D T V L W R) (b c : Bench C D T V) (end : WorkState) → w.state ≡ state.Ready → w.bench ≡ Some b → SeatSoFar k some tape heard told rolled door work fit hall o w None
      → SameBench told rolled b c → IsStop end → door v.door ≡ left_by end (door w.door) → v.left ≡ w.left → v.ended.items ≡ w.ended.items → 0 < w.left → v.state ≡ end → v.bench ≡ Some c → SeatSoFar k some tape heard told rolled door work fit hall o v None
  taken_no_more o w v b c end e is s same i g l m lt st vs = stops_so o w v b c None end (waits o w b e is s) same.0 same.1 same.2 g l m (stop_share end w.left i lt) (never_ready end i) st vs

  -- memory was wanted before the door was asked
  pub wants_memory : (o : Origin) (w v : Worker C G D T V L W R) → w.state ≡ state.Ready → SeatSoFar k some tape heard told rolled door work fit hall o w None
      → door v.door ≡ door w.door → v.left ≡ w.left → v.ended.items ≡ w.ended.items → 0 < w.left → v.state ≡ state.Memory → v.bench ≡ w.bench → SeatSoFar k some tape heard told rolled door work fit hall o v None
  wants_memory o w v e s g l m lt st vs =
      let f = free_there o w e s in
      stops_so o w v f.0 f.0 None state.Memory f.2 refl refl refl g l m lt (never_ready state.Memory tt) st (vs ∙ f.1)

  -- its share is served
  pub share_served : (o : Origin) (w v : Worker C G D T V L W R) → w.state ≡ state.Ready → SeatSoFar k some tape heard told rolled door work fit hall o w None
      → w.left ≡ 0 → Stopped door w v state.Done → SeatSoFar k some tape heard told rolled door work fit hall o v None
  share_served o w v e s z st =
      let f = free_there o w e s in
      stops_so o w v f.0 f.0 None state.Done f.2 refl refl refl st.still st.left (ap (λ (x : Vec (Member R) Global). x.items) st.ended) z ready_done st.state (st.bench ∙ f.1)

  -- a client came
  pub client_came : (o : Origin) (w v : Worker C G D T V L W R) (b : Bench C D T V) (s : Sitting H L) → w.state ≡ state.Ready → w.bench ≡ Some b → SeatSoFar k some tape heard told rolled door work fit hall o w None
      → fit s.handler → IsOn k heard (working some b.desk no_books (told b.clock) (rolled b.dice)) (work s.handler) s.running
      → door v.door ≡ gave_more 1 (door w.door) → v.left ≡ w.left → v.ended.items ≡ w.ended.items → length v.ended.items < v.ended.cap → 0 < w.left → v.state ≡ w.state → v.bench ≡ None
      → SeatSoFar k some tape heard told rolled door work fit hall o v (Some s)
  client_came o w v b s e is h f on g l m room lt st vs =
      seat_taken o v s (st ∙ e) vs f (record {
        client = record {
          desk = b.desk;
          from = outside (told b.clock) (rolled b.dice) (door w.door);
          so_far = same_so_far k some tape hall o.desk b.desk b.desk o.from (outside (told b.clock) (rolled b.dice) (door w.door)) (outside (told b.clock) (rolled b.dice) (door w.door)) o.most w.left v.left w.ended.items v.ended.items
              (waits o w b e is h) refl refl l m;
          session = on;
          gave = g;
          share = subst (λ n. 0 < n) (sym l) lt;
        };
        room = room;
      })

  -- a turn of its session went by
  pub turn_went : (o : Origin) (w : Worker C G D T V L W R) (s t : Sitting H L) → w.state ≡ state.Ready → fit t.handler
      → StepsFrom k heard (work s.handler) s.running (work t.handler) t.running None
      → SeatSoFar k some tape heard told rolled door work fit hall o w (Some s) → SeatSoFar k some tape heard told rolled door work fit hall o w (Some t)
  turn_went o w s t e f steps h =
      let c = client_there o w s e h in
      seat_taken o w t e c.0 f (record { client = held_on k some tape hall o w.left w.ended.items (door w.door) (λ start. IsOn k heard start (work s.handler) s.running) (λ start. IsOn k heard start (work t.handler) t.running) steps c.1.1.client; room = c.1.1.room })

  -- or was the last
  pub session_ended : (o : Origin) (w : Worker C G D T V L W R) (s t : Sitting H L) (end : End) → w.state ≡ state.Ready
      → StepsFrom k heard (work s.handler) s.running (work t.handler) t.running (Some end)
      → SeatSoFar k some tape heard told rolled door work fit hall o w (Some s) → Holds k some tape heard told rolled door work fit hall o w (λ start. HasEnded k heard start (work t.handler) t.running end)
  session_ended o w s t end e steps h =
      let c = client_there o w s e h in
      record { client = held_on k some tape hall o w.left w.ended.items (door w.door) (λ start. IsOn k heard start (work s.handler) s.running) (λ start. HasEnded k heard start (work t.handler) t.running end) steps c.1.1.client; room = c.1.1.room }

  -- the client left
  pub client_gone : (o : Origin) (w v : Worker C G D T V L W R) (s : Sitting H L) (end : End) (b : Bench C D T V) (m : Member R)
      → Holds k some tape heard told rolled door work fit hall o w (λ start. HasEnded k heard start (work s.handler) s.running end)
      → ((start : AtWork) → HasEnded k heard start (work s.handler) s.running end → IsServedSo k some tape told rolled start b m)
      → Sits hall b.desk → m.desk ≡ b.desk.names.number → v.ended.items ≡ w.ended.items ++ m ∷ [] → w.left ≡ v.left + 1 → door v.door ≡ door w.door → v.state ≡ state.Ready → v.bench ≡ Some b
      → SeatSoFar k some tape heard told rolled door work fit hall o v None
  client_gone o w v s end b m h f sits number a l g st vs =
      seat_free o v b st vs
      (client_left k some tape hall told rolled o w.left v.left w.ended.items v.ended.items (door w.door) (door v.door) b m
      (held_on k some tape hall o w.left w.ended.items (door w.door) (λ start. HasEnded k heard start (work s.handler) s.running end) (λ start. IsServedSo k some tape told rolled start b m) f h.client) sits number a l g)

  -- the session of a client that is there goes on, and there is room for its member
  pub record There (w : Worker C G D T V L W R) (s : Sitting H L) : Type 0 where
    pub fits : fit s.handler
    pub on : GoesOn k heard (work s.handler) s.running
    pub room : length w.ended.items < w.ended.cap
    pub share : 0 < w.left

  pub goes_on_there : (w : Worker C G D T V L W R) (s : Sitting H L) (before : Option (Sitting H L)) → before ≡ Some s → w.state ≡ state.Ready → IsSeat k some tape heard told rolled door work fit hall w before → There w s
  unfolding IsSeat
  goes_on_there w s before is e h =
      let seat = subst (λ x. SeatSoFar k some tape heard told rolled door work fit hall h.0 w x) is h.1 in
      let c = client_there h.0 w s e seat in
      let held : Holds k some tape heard told rolled door work fit hall h.0 w (λ start. IsOn k heard start (work s.handler) s.running) = c.1.1 in
      record { fits = c.1.0; on = (working some held.client.desk no_books held.client.from.clock held.client.from.dice, held.client.session); room = held.room; share = held.client.share }

  -- the desk of a bench that is there is of the hall
  pub sits_there : (w : Worker C G D T V L W R) (before : Option (Sitting H L)) → before ≡ None → w.state ≡ state.Ready → IsSeat k some tape heard told rolled door work fit hall w before → SitsAt hall w.bench
  unfolding IsSeat SitsAt
  sits_there w before is e h =
      let f = free_there h.0 w e (subst (λ x. SeatSoFar k some tape heard told rolled door work fit hall h.0 w x) is h.1) in
      subst (SitsAt hall) (sym f.1) f.2.sits

  -- what comes of a seat, by the word that its functions are told it by
  pub serves : (w v : Worker C G D T V L W R) (before after : Option (Sitting H L)) → ((o : Origin) → SeatSoFar k some tape heard told rolled door work fit hall o w before → SeatSoFar k some tape heard told rolled door work fit hall o v after)
      → Serves k some tape heard told rolled door work fit hall w before v after
  unfolding Serves
  serves w v before after f = f

  pub has_left : (w v : Worker C G D T V L W R) (s : Sitting H L) (end : End)
      → ((o : Origin) → Holds k some tape heard told rolled door work fit hall o w (λ start. HasEnded k heard start (work s.handler) s.running end) → SeatSoFar k some tape heard told rolled door work fit hall o v None)
      → HasLeft k some tape heard told rolled door work fit hall w s end v
  unfolding HasLeft
  has_left w v s end f = f

  -- a turn of a session that is there went by
  pub serves_turn : (w : Worker C G D T V L W R) (s t : Sitting H L) (before : Option (Sitting H L)) → before ≡ Some s → w.state ≡ state.Ready → fit t.handler
      → StepsFrom k heard (work s.handler) s.running (work t.handler) t.running None → Serves k some tape heard told rolled door work fit hall w before w (Some t)
  unfolding Serves
  serves_turn w s t before is e f steps o h = turn_went o w s t e f steps (subst (λ x. SeatSoFar k some tape heard told rolled door work fit hall o w x) is h)

  -- it ended, and its client left
  pub serves_last : (w v : Worker C G D T V L W R) (s t : Sitting H L) (end : End) (before : Option (Sitting H L)) → before ≡ Some s → w.state ≡ state.Ready
      → StepsFrom k heard (work s.handler) s.running (work t.handler) t.running (Some end) → HasLeft k some tape heard told rolled door work fit hall w t end v → Serves k some tape heard told rolled door work fit hall w before v None
  unfolding Serves HasLeft
  serves_last w v s t end before is e steps left o h = left o (session_ended o w s t end e steps (subst (λ x. SeatSoFar k some tape heard told rolled door work fit hall o w x) is h))

module _ {C D T V : Type 0} (hall : Rooms State Catalog) where
  pub nobody_sits : (bench : Option (Bench C D T V)) → SitsAt hall bench → bench ≡ None → ⊥
  unfolding SitsAt
  nobody_sits bench s e = subst (SitsAt hall) e s

  pub sits_so : (bench : Option (Bench C D T V)) (b : Bench C D T V) → SitsAt hall bench → bench ≡ Some b → Sits hall b.desk
  unfolding SitsAt
  sits_so bench b s e = subst (SitsAt hall) e s
