-- The seats of one thread.
use Rattle.std.proofs.Common.{◌≡◌, ◌≢◌, ℕ, ℤ, zero, suc, ◌+◌, ◌<◌, ◌⊎◌, inl, inr, List, [], ◌∷◌, length, All, Option, Some, None, refl, sym, ap, subst, ◌∙◌, arith}
use Rattle.std.specs.Prelude.{slice_index_or, slice_set}
use Rattle.std.proofs.lemmas.List.{get_or-set_same, get_or-set_other, length-set}
use Rattle.reql_outside.specs.Source.{Source}
use Rattle.reql_outside.specs.Tape.{Tape}
use Rattle.reql_net.specs.Doors.{DoorTold}
use Rattle.reql_hall.specs.Rooms.{Rooms}
use Rattle.reql_catalog.specs.declared.catalog.Catalog.{Catalog}
use Rattle.reql_table_spec.specs.Machine.{State}
use Rattle.reql_session_spec.specs.Tasks.{Talk}
use Rattle.reql_session_api.specs.World.{AtWork}
use Rattle.reql_session.specs.declared.session.Bench.{Bench}
use Rattle.reql_serve.specs.Working.{outside, left_by, StopsWith, SitsAt, WorkedSoFar, Worked, WorkedThere}
use Rattle.reql_serve.specs.Seats.{Origin, origin, SeatSoFar, StandsSo, EndedSo, Serves, IsSeat, AllSeats, ServesAll, AllWorkedThere, Stands}
use Rattle.reql_serve.specs.declared.sitting.Sitting.{Sitting}
use Rattle.reql_serve.specs.declared.worker.Worker.{Worker}
use Rattle.reql_serve.specs.declared.worker.WorkState.{WorkState}
use Rattle.reql_serve.specs.declared.worker.WorkState.TheVariants as state
use Rattle.reql_serve.proofs.Working.{none_so_far, ends_with}
use Rattle.reql_serve.proofs.Seated.{seat_free}

-- an element of a list that isn't there
past : {A : Type 0} (xs : List A) (n : ℕ) (d : A) → (n < length xs → ⊥) → slice_index_or xs n d ≡ d
past [] n d h = refl
past (x ∷ xs) zero d h = absurd (h (omega arith))
past (x ∷ xs) (suc n) d h = past xs n d (λ lt. h (omega (arith, lt)))

-- what stands at a place that is there doesn't hang on what stands past the end
found_either : {A : Type 0} (xs : List A) (n : ℕ) (d e : A) → n < length xs → slice_index_or xs n d ≡ slice_index_or xs n e
found_either [] n d e lt = absurd (omega (arith, lt))
found_either (x ∷ xs) zero d e lt = refl
found_either (x ∷ xs) (suc n) d e lt = found_either xs n d e (omega (arith, lt))

equal : (n m : ℕ) → (n ≡ m) ⊎ (n ≢ m)
equal zero zero = inl refl
equal zero (suc m) = inr (λ e. absurd (omega (arith, e)))
equal (suc n) zero = inr (λ e. absurd (omega (arith, e)))
equal (suc n) (suc m) = elim (equal n m) [ inl e ↦ inl (ap suc e) | inr ne ↦ inr (λ e. ne (omega (arith, e))) ]

is_less : (n m : ℕ) → n < m + 1 → n ≢ m → n < m
is_less zero zero lt ne = absurd (ne refl)
is_less zero (suc m) lt ne = omega arith
is_less (suc n) zero lt ne = absurd (omega (arith, lt))
is_less (suc n) (suc m) lt ne = omega (arith, is_less n m (omega (arith, lt)) (λ e. ne (ap suc e)))

below : (n m : ℕ) → (n < m) ⊎ (n < m → ⊥)
below n zero = inr (λ lt. absurd (omega (arith, lt)))
below zero (suc m) = inl (omega arith)
below (suc n) (suc m) = elim (below n m) [ inl lt ↦ inl (omega (arith, lt)) | inr out ↦ inr (λ lt. out (omega (arith, lt))) ]

at_last : (n place : ℕ) → n < place + 1 → (n < place → ⊥) → n ≡ place
at_last n place lt out = elim (below n place) [ inl few ↦ absurd (out few) | inr _ ↦ elim (equal n place) [ inl e ↦ e | inr ne ↦ absurd (out (is_less n place lt ne)) ] ]

-- all elements are nothing, and so is what stands past them
pub nothing_at : {A : Type 0} (xs : List (Option A)) (n : ℕ) → All (λ (x : Option A). x ≡ None) xs → slice_index_or xs n None ≡ None
nothing_at xs n h = elim (below n (length xs)) [ inl lt ↦ h n None lt | inr out ↦ past xs n None out ]

module _ {PL C G D T V L W R H : Type 0} (k : Talk PL) (some : State) (tape : R → Tape) (heard : L → Tape) (told : T → Source ℤ) (rolled : D → Source (List ℕ)) (door : G → DoorTold) (work : H → AtWork) (fit : H → Type 0) (hall : Rooms State Catalog) where
  pub all_same : (ws : List (Worker C G D T V L W R)) (ss : List (Option (Sitting H L))) → ServesAll k some tape heard told rolled door work fit hall ws ss ws ss
  unfolding ServesAll Serves
  all_same ws ss n w lt o h = h

  -- one after another
  pub all_then : (ws vs us : List (Worker C G D T V L W R)) (ss ts rs : List (Option (Sitting H L))) → length vs ≡ length ws
      → ServesAll k some tape heard told rolled door work fit hall ws ss vs ts → ServesAll k some tape heard told rolled door work fit hall vs ts us rs → ServesAll k some tape heard told rolled door work fit hall ws ss us rs
  unfolding ServesAll Serves
  all_then ws vs us ss ts rs e f g n w lt o h = g n w (omega (arith, e, lt)) o (f n w lt o h)

  pub all_seats_on : (ws vs : List (Worker C G D T V L W R)) (ss ts : List (Option (Sitting H L))) → length vs ≡ length ws
      → AllSeats k some tape heard told rolled door work fit hall ws ss → ServesAll k some tape heard told rolled door work fit hall ws ss vs ts → AllSeats k some tape heard told rolled door work fit hall vs ts
  unfolding ServesAll Serves AllSeats IsSeat
  all_seats_on ws vs ss ts e f g n w lt = let s = f n w (omega (arith, e, lt)) in (s.0, g n w (omega (arith, e, lt)) s.0 s.1)

  -- a worker that stands so may go on, or its share is none
  pub begun : (w v : Worker C G D T V L W R) (a : Bench C D T V) → w.bench ≡ Some a → SitsAt hall w.bench → w.ended.items ≡ [] → Stands door w v state.Ready
      → SeatSoFar k some tape heard told rolled door work fit hall (origin a.desk (outside (told a.clock) (rolled a.dice) (door w.door)) w.left) v None
  unfolding SeatSoFar SitsAt
  begun w v a is sits unused s =
      let so_far : WorkedSoFar k some tape hall a.desk a.desk (outside (told a.clock) (rolled a.dice) (door w.door)) (outside (told a.clock) (rolled a.dice) (door v.door)) w.left v.left v.ended.items
      = subst (λ z. WorkedSoFar k some tape hall a.desk a.desk (outside (told a.clock) (rolled a.dice) (door w.door)) (outside (told a.clock) (rolled a.dice) z) w.left v.left v.ended.items) (sym s.still)
      (none_so_far k some tape hall a.desk (outside (told a.clock) (rolled a.dice) (door w.door)) w.left v.left v.ended.items s.left (ap (λ x. x.items) s.ended ∙ unused) (subst (SitsAt hall) is sits)) in
      elim s.state [
        | inl z ↦ subst (λ st. StandsSo k some tape heard told rolled door work fit hall (origin a.desk (outside (told a.clock) (rolled a.dice) (door w.door)) w.left) v st None) (sym z.1)
            (subst (λ b. EndedSo k some tape heard told rolled door work fit hall (origin a.desk (outside (told a.clock) (rolled a.dice) (door w.door)) w.left) v b) (sym (s.bench ∙ is))
            (subst (λ st. Worked k some tape hall a.desk a.desk (outside (told a.clock) (rolled a.dice) (door w.door)) (outside (told a.clock) (rolled a.dice) (door v.door)) w.left v.left v.ended.items st) (sym z.1)
            (ends_with k some tape hall a.desk a.desk a.desk (outside (told a.clock) (rolled a.dice) (door w.door)) (outside (told a.clock) (rolled a.dice) (door v.door)) (outside (told a.clock) (rolled a.dice) (door v.door)) w.left v.left v.ended.items v.ended.items state.Done so_far refl refl refl (s.left ∙ z.0))))
        | inr z ↦ seat_free k some tape heard told rolled door work fit hall (origin a.desk (outside (told a.clock) (rolled a.dice) (door w.door)) w.left) v a z.1 (s.bench ∙ is) so_far
      ]

  -- what a worker did that ended
  worked_of : (w u : Worker C G D T V L W R) (a : Bench C D T V) (bench : Option (Bench C D T V)) → w.bench ≡ Some a → u.bench ≡ bench
      → EndedSo k some tape heard told rolled door work fit hall (origin a.desk (outside (told a.clock) (rolled a.dice) (door w.door)) w.left) u bench
      → WorkedThere k some tape told rolled hall w.bench u.bench (door w.door) (door u.door) w.left u.left u.ended.items u.state
  unfolding WorkedThere
  worked_of w u a None is e h = absurd h
  worked_of w u a (Some b) is e h =
      subst (λ (z : Option (Bench C D T V) × Option (Bench C D T V)). WorkedThere k some tape told rolled hall z.0 z.1 (door w.door) (door u.door) w.left u.left u.ended.items u.state) (λ i. (sym is i, sym e i)) h

  ended_state : (o : Origin) (u : Worker C G D T V L W R) (sitting : Option (Sitting H L)) (end : WorkState) → end ≢ state.Ready → StandsSo k some tape heard told rolled door work fit hall o u end sitting → EndedSo k some tape heard told rolled door work fit hall o u u.bench
  ended_state o u sitting state.Ready ne h = absurd (ne refl)
  ended_state o u sitting state.Done ne h = h
  ended_state o u sitting state.Over ne h = h
  ended_state o u sitting state.Failed ne h = h
  ended_state o u sitting state.Memory ne h = h

  ended_worked : (w u : Worker C G D T V L W R) (a : Bench C D T V) (sitting : Option (Sitting H L)) → w.bench ≡ Some a → u.state ≢ state.Ready
      → SeatSoFar k some tape heard told rolled door work fit hall (origin a.desk (outside (told a.clock) (rolled a.dice) (door w.door)) w.left) u sitting
      → WorkedThere k some tape told rolled hall w.bench u.bench (door w.door) (door u.door) w.left u.left u.ended.items u.state
  unfolding SeatSoFar
  ended_worked w u a sitting is ne h = worked_of w u a u.bench is refl (ended_state (origin a.desk (outside (told a.clock) (rolled a.dice) (door w.door)) w.left) u sitting u.state ne h)

  seat_of : (w v : Worker C G D T V L W R) (bench : Option (Bench C D T V)) → w.bench ≡ bench → SitsAt hall w.bench → w.ended.items ≡ [] → Stands door w v state.Ready → IsSeat k some tape heard told rolled door work fit hall v None
  unfolding SitsAt IsSeat
  seat_of w v None e sits unused s = absurd (subst (SitsAt hall) e sits)
  seat_of w v (Some a) e sits unused s = (origin a.desk (outside (told a.clock) (rolled a.dice) (door w.door)) w.left, begun w v a e sits unused s)

  served_of : (w v u : Worker C G D T V L W R) (t : Option (Sitting H L)) (bench : Option (Bench C D T V)) → w.bench ≡ bench → SitsAt hall w.bench → w.ended.items ≡ [] → Stands door w v state.Ready
      → Serves k some tape heard told rolled door work fit hall v None u t → u.state ≢ state.Ready
      → WorkedThere k some tape told rolled hall w.bench u.bench (door w.door) (door u.door) w.left u.left u.ended.items u.state
  unfolding SitsAt Serves
  served_of w v u t None e sits unused s f ne = absurd (subst (SitsAt hall) e sits)
  served_of w v u t (Some a) e sits unused s f ne = ended_worked w u a t e ne (f (origin a.desk (outside (told a.clock) (rolled a.dice) (door w.door)) w.left) (begun w v a e sits unused s))

  -- all begin
  pub all_begin : (ws vs : List (Worker C G D T V L W R)) (ss : List (Option (Sitting H L))) → length vs ≡ length ws → All (λ (w : Worker C G D T V L W R). SitsAt hall w.bench) ws → All (λ (w : Worker C G D T V L W R). w.ended.items ≡ []) ws
      → ((n : ℕ) (w : Worker C G D T V L W R) → n < length ws → Stands door (slice_index_or ws n w) (slice_index_or vs n w) state.Ready) → All (λ (s : Option (Sitting H L)). s ≡ None) ss
      → AllSeats k some tape heard told rolled door work fit hall vs ss
  unfolding AllSeats
  all_begin ws vs ss e sits unused s none n w lt =
      let few : n < length ws = omega (arith, e, lt) in
      subst (IsSeat k some tape heard told rolled door work fit hall (slice_index_or vs n w)) (sym (nothing_at ss n none))
      (seat_of (slice_index_or ws n w) (slice_index_or vs n w) (slice_index_or ws n w).bench refl (sits n w few) (unused n w few) (s n w few))

  -- all ended
  pub all_worked : (ws vs us : List (Worker C G D T V L W R)) (ss ts : List (Option (Sitting H L))) → length vs ≡ length ws → length us ≡ length ws → All (λ (w : Worker C G D T V L W R). SitsAt hall w.bench) ws → All (λ (w : Worker C G D T V L W R). w.ended.items ≡ []) ws
      → ((n : ℕ) (w : Worker C G D T V L W R) → n < length ws → Stands door (slice_index_or ws n w) (slice_index_or vs n w) state.Ready) → All (λ (s : Option (Sitting H L)). s ≡ None) ss
      → ServesAll k some tape heard told rolled door work fit hall vs ss us ts → All (λ (u : Worker C G D T V L W R). u.state ≢ state.Ready) us
      → AllWorkedThere k some tape told rolled door hall ws us
  unfolding ServesAll AllWorkedThere
  all_worked ws vs us ss ts e q sits unused s none f over n w lt =
      served_of (slice_index_or ws n w) (slice_index_or vs n w) (slice_index_or us n w) (slice_index_or ts n None) (slice_index_or ws n w).bench refl (sits n w lt) (unused n w lt) (s n w lt)
      (subst (λ x. Serves k some tape heard told rolled door work fit hall (slice_index_or vs n w) x (slice_index_or us n w) (slice_index_or ts n None)) (nothing_at ss n none) (f n w (omega (arith, e, lt))))
      (over n w (omega (arith, q, lt)))

module _ {PL C G D T V L W R : Type 0} (k : Talk PL) (some : State) (tape : R → Tape) (told : T → Source ℤ) (rolled : D → Source (List ℕ)) (door : G → DoorTold) (hall : Rooms State Catalog) where
  rested : (w v : Worker C G D T V L W R) (bench : Option (Bench C D T V)) → w.bench ≡ bench → SitsAt hall w.bench → w.ended.items ≡ [] → Stands door w v state.Memory
      → WorkedThere k some tape told rolled hall w.bench v.bench (door w.door) (door v.door) w.left v.left v.ended.items v.state
  unfolding SitsAt WorkedThere
  rested w v None e sits unused s = absurd (subst (SitsAt hall) e sits)
  rested w v (Some a) e sits unused s =
      let from = outside (told a.clock) (rolled a.dice) (door w.door) in
      let so_far : WorkedSoFar k some tape hall a.desk a.desk (outside (told a.clock) (rolled a.dice) (door w.door)) (outside (told a.clock) (rolled a.dice) (door v.door)) w.left v.left v.ended.items
      = subst (λ z. WorkedSoFar k some tape hall a.desk a.desk (outside (told a.clock) (rolled a.dice) (door w.door)) (outside (told a.clock) (rolled a.dice) z) w.left v.left v.ended.items) (sym s.still)
      (none_so_far k some tape hall a.desk (outside (told a.clock) (rolled a.dice) (door w.door)) w.left v.left v.ended.items s.left (ap (λ x. x.items) s.ended ∙ unused) (subst (SitsAt hall) e sits)) in
      let ends : (end : WorkState) → left_by end (door v.door) ≡ door v.door → StopsWith end v.left → v.state ≡ end → Worked k some tape hall a.desk a.desk (outside (told a.clock) (rolled a.dice) (door w.door)) (outside (told a.clock) (rolled a.dice) (door v.door)) w.left v.left v.ended.items v.state
      = λ end same stops is. subst (λ st. Worked k some tape hall a.desk a.desk (outside (told a.clock) (rolled a.dice) (door w.door)) (outside (told a.clock) (rolled a.dice) (door v.door)) w.left v.left v.ended.items st) (sym is)
      (ends_with k some tape hall a.desk a.desk a.desk (outside (told a.clock) (rolled a.dice) (door w.door)) (outside (told a.clock) (rolled a.dice) (door v.door)) (outside (told a.clock) (rolled a.dice) (door v.door)) w.left v.left v.ended.items v.ended.items end so_far refl refl
      (λ i. outside (told a.clock) (rolled a.dice) (sym same i)) stops) in
      subst (λ (z : Option (Bench C D T V) × Option (Bench C D T V)). WorkedThere k some tape told rolled hall z.0 z.1 (door w.door) (door v.door) w.left v.left v.ended.items v.state) (λ i. (sym e i, sym (s.bench ∙ e) i))
      (elim s.state [
        | inl z ↦ ends state.Done refl (s.left ∙ z.0) z.1
        | inr z ↦ ends state.Memory refl (subst (λ n. 0 < n) (sym s.left) z.0) z.1
      ])

  -- none could be asked
  pub all_rested : (ws vs : List (Worker C G D T V L W R)) → length vs ≡ length ws → All (λ (w : Worker C G D T V L W R). SitsAt hall w.bench) ws → All (λ (w : Worker C G D T V L W R). w.ended.items ≡ []) ws
      → ((n : ℕ) (w : Worker C G D T V L W R) → n < length ws → Stands door (slice_index_or ws n w) (slice_index_or vs n w) state.Memory)
      → AllWorkedThere k some tape told rolled door hall ws vs
  unfolding AllWorkedThere
  all_rested ws vs e sits unused s n w lt = rested (slice_index_or ws n w) (slice_index_or vs n w) (slice_index_or ws n w).bench refl (sits n w lt) (unused n w lt) (s n w lt)

module _ {C G D T V L W R : Type 0} (door : G → DoorTold) where
  -- the first so many stand so, and the others are as they were
  pub record StandUpTo (ws vs : List (Worker C G D T V L W R)) (end : WorkState) (place : ℕ) : Type 0 where
    pub same : length vs ≡ length ws
    pub stand : (n : ℕ) (w : Worker C G D T V L W R) → n < place → Stands door (slice_index_or ws n w) (slice_index_or vs n w) end
    pub others : (n : ℕ) (w : Worker C G D T V L W R) → (n < place → ⊥) → slice_index_or vs n w ≡ slice_index_or ws n w

  pub none_stand : (ws : List (Worker C G D T V L W R)) (end : WorkState) → StandUpTo ws ws end 0
  none_stand ws end = record { same = refl; stand = λ n w lt. absurd (omega (arith, lt)); others = λ n w out. refl }

  pub one_stands : (ws vs : List (Worker C G D T V L W R)) (end : WorkState) (place : ℕ) (d x : Worker C G D T V L W R) → place < length vs → StandUpTo ws vs end place
      → Stands door (slice_index_or vs place d) x end → StandUpTo ws (slice_set vs place x) end (place + 1)
  one_stands ws vs end place d x lt u s =
      let was : slice_index_or vs place d ≡ slice_index_or ws place d = u.others place d (λ h. absurd (omega (arith, h))) in
      let here : (w : Worker C G D T V L W R) → slice_index_or (slice_set vs place x) place w ≡ x = λ w. get_or-set_same vs place x w lt in
      record {
        same = length-set vs place x ∙ u.same;
        stand = λ n w l. elim (below n place) [
          | inl less ↦ subst (λ v. Stands door (slice_index_or ws n w) v end) (sym (get_or-set_other vs place n x w (λ e. absurd (omega (arith, e, less))))) (u.stand n w less)
          | inr out ↦ let e : n ≡ place = at_last n place l out in
              subst (λ m. Stands door (slice_index_or ws m w) (slice_index_or (slice_set vs place x) m w) end) (sym e)
              (subst (λ (z : Worker C G D T V L W R × Worker C G D T V L W R). Stands door z.0 z.1 end) (λ i. ((was ∙ found_either ws place d w (omega (arith, lt, u.same))) i, sym (here w) i)) s)
        ];
        others = λ n w out. get_or-set_other vs place n x w (λ e. out (omega (arith, e))) ∙ u.others n w (λ h. out (omega (arith, h)));
      }

module _ {PL C G D T V L W R H : Type 0} (k : Talk PL) (some : State) (tape : R → Tape) (heard : L → Tape) (told : T → Source ℤ) (rolled : D → Source (List ℕ)) (door : G → DoorTold) (work : H → AtWork) (fit : H → Type 0) (hall : Rooms State Catalog) where
  -- one seat had its turn
  pub one_serves : (ws : List (Worker C G D T V L W R)) (ss : List (Option (Sitting H L))) (place : ℕ) (d x : Worker C G D T V L W R) (e y : Option (Sitting H L)) → place < length ws → length ss ≡ length ws
      → Serves k some tape heard told rolled door work fit hall (slice_index_or ws place d) (slice_index_or ss place e) x y
      → ServesAll k some tape heard told rolled door work fit hall ws ss (slice_set ws place x) (slice_set ss place y)
  unfolding ServesAll Serves
  one_serves ws ss place d x e y lt same f n w few o h =
      elim (equal n place) [
        | inl is ↦
            subst (λ m. SeatSoFar k some tape heard told rolled door work fit hall o (slice_index_or (slice_set ws place x) m w) (slice_index_or (slice_set ss place y) m None)) (sym is)
            (subst (λ (z : Worker C G D T V L W R × Option (Sitting H L)). SeatSoFar k some tape heard told rolled door work fit hall o z.0 z.1)
            (λ i. (sym (get_or-set_same ws place x w lt) i, sym (get_or-set_same ss place y None (omega (arith, lt, same))) i))
            (f o (subst (λ (z : Worker C G D T V L W R × Option (Sitting H L)). SeatSoFar k some tape heard told rolled door work fit hall o z.0 z.1)
            (λ i. (found_either ws place w d lt i, found_either ss place None e (omega (arith, lt, same)) i))
            (subst (λ m. SeatSoFar k some tape heard told rolled door work fit hall o (slice_index_or ws m w) (slice_index_or ss m None)) is h))))
        | inr out ↦ subst (λ (z : Worker C G D T V L W R × Option (Sitting H L)). SeatSoFar k some tape heard told rolled door work fit hall o z.0 z.1)
            (λ i. (sym (get_or-set_other ws place n x w out) i, sym (get_or-set_other ss place n y None out) i)) h
      ]

  pub seat_at : (ws : List (Worker C G D T V L W R)) (ss : List (Option (Sitting H L))) (place : ℕ) (d : Worker C G D T V L W R) (e : Option (Sitting H L)) → place < length ws → length ss ≡ length ws
      → AllSeats k some tape heard told rolled door work fit hall ws ss → IsSeat k some tape heard told rolled door work fit hall (slice_index_or ws place d) (slice_index_or ss place e)
  unfolding AllSeats
  seat_at ws ss place d e lt same h =
      subst (λ z. IsSeat k some tape heard told rolled door work fit hall (slice_index_or ws place d) z) (found_either ss place None e (omega (arith, lt, same))) (h place d lt)
