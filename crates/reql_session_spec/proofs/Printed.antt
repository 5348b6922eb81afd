-- All that is said of a feed, kept along a run.
use Rattle.std.proofs.Common.{◌≡◌, ◌⊎◌, ◌+◌, ◌-◌, ◌≤◌, inl, inr, ℕ, zero, suc, Bool, true, false, true≢false, cond, not, ◌&&◌, ◌||◌, filter, map, List, [], ◌∷◌, ◌++◌, take, drop, length, Option, Some, None, refl, sym, ap, subst, ◌∙◌, arith, append_assoc, append-nil, length-append}
use Rattle.std.specs.List.{AllByRecursion}
use Rattle.std.specs.Prelude.{nat_eq, nat_le, is_some}
use Rattle.std.proofs.lemmas.Bool.{eqb-true, eq-eqb}
use Rattle.std.proofs.lemmas.Grind.{flat_map-append}
use Rattle.std.proofs.lemmas.List.{take-append-drop}
use Rattle.reql_table_machine_spec.proofs.Items.{all_append}
use Rattle.reql_table_machine_spec.proofs.Tracking.{split}
use Rattle.reql_table_machine_spec.specs.declared.command.Said.{Said}
use Rattle.reql_table_machine_spec.specs.declared.command.Said.TheVariants as said_as
use Rattle.reql_answer.specs.Body.{Stamped}
use Rattle.reql_answer.specs.declared.error.ErrorType.TheVariants as errors
use Rattle.reql_datum.specs.Plain.{Plain}
use Rattle.reql_datum.specs.declared.point.Point.{Point}
use Rattle.reql_shared.specs.Acts.{Ran, Looked, Denied}
use Rattle.reql_table_spec.specs.Replies.{Answered as Told}
use Rattle.reql_table_spec.specs.declared.command.Cmd.{Cmd}
use Rattle.reql_table_spec.specs.declared.command.Cmd.TheVariants as cmds
use Rattle.reql_table_spec.specs.declared.command.Order.{Order}
use Rattle.reql_table_spec.specs.declared.reply.Saved.{Saved}
use Rattle.reql_write_spec.specs.declared.command.Summary.{Summary}
use Rattle.reql_session_spec.specs.Requests.{Asked, Unreadable, Unplanned, Start, Continue, Stop, NoreplyWait, ServerInfo, Arm, Shown, Answered, Unsent, One, Stream, Feed, Fault, Wanting, Move, Ends, Found, SawNames, Clocked, SawSlot, ChangedNames, Rolled, Answer, Failed, Internal, Last, Part, Batch, points_from, stamped}
use Rattle.reql_session_spec.specs.Books.{Cursor, Open, Books, has_token, without, cursor_of, feed_of, is_open, opened, closed, with_rest, with_left, with_cursor, with_feed, waits, saw_names}
use Rattle.reql_session_spec.specs.Tasks.{Talk, Firm, Stops, Drops, Settled, Task, Planning, Visiting, Telling, Closing, Next, done, at, close, internal_for, wanted, denied, told, stop_feed, stop, is_long, cut, tell, tell_now, settle, comes_to, continue_cursor, continue_left, continue_feed, continue_on, visit_feed, visit, refuse, begin, takes_up, next_arm, batch_of, gone, took_said, took, ran, found_more, Runs, Asks, batch_size, is_empty, skipped_item, change_items, cut_to, fitted, others, arms_denied, take_order, close_order}
use Rattle.reql_session_spec.specs.Bodies.{full}
use Rattle.reql_session_spec.specs.Minding.{has_arm, are_apart, Minds, IsOther, PlansMind}
use Rattle.reql_session_spec.specs.Session.{Event, Turn, Visit, Greeted, Login, Cast, Begin, Heard, Lost, Quiet, Finish, Broken, Long, Wear, Poor, On, OnNames, Dice, Clock, Come, Say, Want, Doing, Rest, Visits, Busy, Leaving, Mach, fresh, Step, Run, doing_next, goes_on, PlanEnds}
use Rattle.reql_session_spec.specs.Waiting.{IsNothing, IsBare, FoundNothing, IsVisited, EndsInVain}
use Rattle.reql_session_spec.specs.Owed.{keeps, IsHere}
use Rattle.reql_session_spec.specs.Printed.{items_in, said_by, all_said, AreNotes, HasNotes, printed, printed_from, given_by, left_of, task_asks, is_asking, taken_at, saying, due, IsOpenAt, StaysOpen, all_given, IsTold, FeedsAreTold, BatchesAreOfFeeds, BatchesAreFull, TakesAreOfFeeds, AllIsSaid}
use Rattle.reql_session_spec.proofs.Answering.{asks_alone, plans_alone}
use Rattle.reql_session_spec.proofs.Waiting.{starts_to_wait}
use Rattle.reql_session_spec.proofs.Shelves.{which, or_false, found_token}

either : {A : Type 0} (P : A → Type 0) (x : Bool) (y z : A) → (x ≡ true → P y) → (x ≡ false → P z) → P (cond x y z)
either P true y z f g = f refl
either P false y z f g = g refl

same_some : (x y : Open) → Some x ≡ Some y → x ≡ y
same_some x y h = ap (λ o. get x o) h
  where
    get : Open → Option Open → Open
    get d None = d
    get d (Some z) = z

later : (a b : Bool) → b ≡ true → (a || b) ≡ true
later true b h = refl
later false b h = h

empty_of : (xs : List Shown) → is_empty xs ≡ true → xs ≡ []
empty_of [] e = refl
empty_of (x ∷ xs) e = absurd (true≢false (sym e))

-- nothing is left behind so many items, or so many there are
cut_full : (n : ℕ) (xs : List Shown) → (drop n xs ≡ []) ⊎ (n ≤ length (take n xs))
cut_full zero xs = inr (omega arith)
cut_full (suc n) [] = inl refl
cut_full (suc n) (x ∷ xs) = elim (cut_full n xs) [ inl h ↦ inl h | inr h ↦ inr (omega (arith, h)) ]

-- another token than one that is the same as a third
apart_from : (x t τ : ℕ) → nat_eq x t ≡ true → nat_eq t τ ≡ false → nat_eq x τ ≡ false
apart_from x t τ a b = ap (λ z. nat_eq z τ) (eqb-true x t a) ∙ b

-- ---- an arm among the plan's arms
module _ (s : Said Summary Plain) where
  has_there : (arm : Arm) (pre rest : List Arm) → has_arm arm.slot arm.feed (pre ++ arm ∷ rest) ≡ true
  has_there arm [] rest = ap (λ x. (x && nat_eq arm.feed arm.feed) || has_arm arm.slot arm.feed rest) (eq-eqb arm.slot arm.slot refl) ∙ ap (λ x. x || has_arm arm.slot arm.feed rest) (eq-eqb arm.feed arm.feed refl)
  has_there arm (x ∷ pre) rest = later (nat_eq x.slot arm.slot && nat_eq x.feed arm.feed) (has_arm arm.slot arm.feed (pre ++ arm ∷ rest)) (has_there arm pre rest)

  first_and : (a b : Bool) → (not a && b) ≡ true → (a ≡ false) × (b ≡ true)
  first_and true b h = absurd (true≢false (sym h))
  first_and false b h = (refl, h)

  both : (x y : Bool) → (x && y) ≡ true → (x ≡ true) × (y ≡ true)
  both true y e = (refl, e)
  both false y e = absurd (true≢false (sym e))

  printed_place : (n : ℕ) (arm : Arm) (pre rest : List Arm) → are_apart (pre ++ arm ∷ rest) ≡ true → printed_from n (pre ++ arm ∷ rest) arm.slot arm.feed s ≡ printed (n + length pre) arm s
  printed_place n arm [] rest h =
      let here : (nat_eq arm.slot arm.slot && nat_eq arm.feed arm.feed) ≡ true = (λ i. eq-eqb arm.slot arm.slot refl i && eq-eqb arm.feed arm.feed refl i) in
      let same : n ≡ n + 0 = omega arith in
      ap (λ b. cond b (printed n arm s) (printed_from (suc n) rest arm.slot arm.feed s)) here ∙ ap (λ z. printed z arm s) same
  printed_place n arm (x ∷ pre) rest h =
      let a = first_and (has_arm x.slot x.feed (pre ++ arm ∷ rest)) (are_apart (pre ++ arm ∷ rest)) h in
      let same : suc n + length pre ≡ n + length (x ∷ pre) = omega arith in
      elim (which (nat_eq x.slot arm.slot && nat_eq x.feed arm.feed)) [
        | inl t ↦ (let z = both (nat_eq x.slot arm.slot) (nat_eq x.feed arm.feed) t in
            let at : arm.slot ≡ x.slot = sym (eqb-true x.slot arm.slot z.0) in
            let of : arm.feed ≡ x.feed = sym (eqb-true x.feed arm.feed z.1) in
            absurd (true≢false (sym (has_there arm pre rest) ∙ (λ i. has_arm (at i) (of i) (pre ++ arm ∷ rest)) ∙ a.0)))
        | inr t ↦ ap (λ b. cond b (printed n x s) (printed_from (suc n) (pre ++ arm ∷ rest) arm.slot arm.feed s)) t ∙ printed_place (suc n) arm pre rest a.1 ∙ ap (λ z. printed z arm s) same
      ]

  place_of : (pre rest : List Arm) (arm : Arm) → length (pre ++ arm ∷ rest) - length (arm ∷ rest) ≡ length pre
  place_of pre rest arm = omega (arith, length-append pre (arm ∷ rest))

-- ---- a token in changed lists
module _ (τ : ℕ) where
  abbrev feeds_without : ℕ → List Open → List Open
  feeds_without t fs = filter (λ f. not (nat_eq f.token t)) fs

  abbrev cursors_without : ℕ → List Cursor → List Cursor
  cursors_without t cs = filter (λ c. not (nat_eq c.token t)) cs

  abbrev lefts : ℕ → List Shown → List Open → List Open
  lefts t left fs = map (λ f. cond (nat_eq f.token t) (record f { left = left }) f) fs

  abbrev rests : ℕ → List Plain → List Cursor → List Cursor
  rests t rest cs = map (λ c. cond (nat_eq c.token t) (record c { rest = rest }) c) cs

  pub feed_out : (fs : List Open) → feed_of τ (feeds_without τ fs) ≡ None
  feed_out [] = refl
  feed_out (f ∷ fs) = elim (which (nat_eq f.token τ)) [
    | inl t ↦ ap (λ b. feed_of τ (cond (not b) (f ∷ feeds_without τ fs) (feeds_without τ fs))) t ∙ feed_out fs
    | inr t ↦ ap (λ b. feed_of τ (cond (not b) (f ∷ feeds_without τ fs) (feeds_without τ fs))) t ∙ ap (λ b. cond b (Some f) (feed_of τ (feeds_without τ fs))) t ∙ feed_out fs
  ]

  pub feed_kept : (t : ℕ) (fs : List Open) → nat_eq t τ ≡ false → feed_of τ (feeds_without t fs) ≡ feed_of τ fs
  feed_kept t [] n = refl
  feed_kept t (f ∷ fs) n = elim (which (nat_eq f.token t)) [
    | inl y ↦ ap (λ b. feed_of τ (cond (not b) (f ∷ feeds_without t fs) (feeds_without t fs))) y ∙ feed_kept t fs n ∙ ap (λ b. cond b (Some f) (feed_of τ fs)) (sym (apart_from f.token t τ y n))
    | inr y ↦ ap (λ b. feed_of τ (cond (not b) (f ∷ feeds_without t fs) (feeds_without t fs))) y ∙ ap (λ z. cond (nat_eq f.token τ) (Some f) z) (feed_kept t fs n)
  ]

  feed_none : (t : ℕ) (fs : List Open) → feed_of τ fs ≡ None → feed_of τ (feeds_without t fs) ≡ None
  feed_none t fs e = elim (which (nat_eq t τ)) [
    | inl y ↦ ap (λ z. feed_of τ (feeds_without z fs)) (eqb-true t τ y) ∙ feed_out fs
    | inr y ↦ feed_kept t fs y ∙ e
  ]

  cursor_none : (t : ℕ) (cs : List Cursor) → is_some (cursor_of τ cs) ≡ false → is_some (cursor_of τ (cursors_without t cs)) ≡ false
  cursor_none t [] e = refl
  cursor_none t (c ∷ cs) e = split (nat_eq c.token τ) (λ b. nat_eq c.token τ ≡ b → is_some (cond b (Some c) (cursor_of τ cs)) ≡ false → is_some (cursor_of τ (cursors_without t (c ∷ cs))) ≡ false)
      (λ _ y h. absurd (true≢false h))
      (λ _ y h. split (nat_eq c.token t) (λ b. is_some (cursor_of τ (cond (not b) (c ∷ cursors_without t cs) (cursors_without t cs))) ≡ false)
      (λ _. cursor_none t cs h) (λ _. ap (λ b. is_some (cond b (Some c) (cursor_of τ (cursors_without t cs)))) y ∙ cursor_none t cs h)) refl e

  cursor_rests : (t : ℕ) (rest : List Plain) (cs : List Cursor) → is_some (cursor_of τ cs) ≡ false → is_some (cursor_of τ (rests t rest cs)) ≡ false
  cursor_rests t rest [] e = refl
  cursor_rests t rest (c ∷ cs) e = split (nat_eq c.token τ) (λ b. nat_eq c.token τ ≡ b → is_some (cond b (Some c) (cursor_of τ cs)) ≡ false → is_some (cursor_of τ (rests t rest (c ∷ cs))) ≡ false)
      (λ _ y h. absurd (true≢false h))
      (λ _ y h. split (nat_eq c.token t) (λ b. is_some (cond (nat_eq (cond b (record c { rest = rest }) c).token τ) (Some (cond b (record c { rest = rest }) c)) (cursor_of τ (rests t rest cs))) ≡ false)
      (λ _. ap (λ b. is_some (cond b (Some (record c { rest = rest })) (cursor_of τ (rests t rest cs)))) y ∙ cursor_rests t rest cs h) (λ _. ap (λ b. is_some (cond b (Some c) (cursor_of τ (rests t rest cs)))) y ∙ cursor_rests t rest cs h)) refl e

  cursor_more : (c : Cursor) (cs : List Cursor) → nat_eq c.token τ ≡ false → is_some (cursor_of τ cs) ≡ false → is_some (cursor_of τ (cs ++ c ∷ [])) ≡ false
  cursor_more c [] n e = ap (λ b. is_some (cond b (Some c) None)) n
  cursor_more c (x ∷ cs) n e = split (nat_eq x.token τ) (λ b. is_some (cond b (Some x) (cursor_of τ cs)) ≡ false → is_some (cond b (Some x) (cursor_of τ (cs ++ c ∷ []))) ≡ false) (λ _ h. absurd (true≢false h)) (λ _ h. cursor_more c cs n h) e

  cursor_found : (t : ℕ) (cs : List Cursor) (c : Cursor) → cursor_of t cs ≡ Some c → nat_eq c.token t ≡ true
  cursor_found t [] c e = absurd (let h : None ≡ Some c = e in cc)
  cursor_found t (x ∷ cs) c e = split (nat_eq x.token t) (λ b. nat_eq x.token t ≡ b → cond b (Some x) (cursor_of t cs) ≡ Some c → nat_eq c.token t ≡ true)
      (λ _ y h. subst (λ (z : Cursor). nat_eq z.token t ≡ true) (ap (λ o. took_out x o) h) y) (λ _ y h. cursor_found t cs c h) refl e
    where
      took_out : Cursor → Option Cursor → Cursor
      took_out d None = d
      took_out d (Some z) = z

  pub feed_left : (left : List Shown) (fs : List Open) (f : Open) → feed_of τ fs ≡ Some f → feed_of τ (lefts τ left fs) ≡ Some (record f { left = left })
  feed_left left [] f e = absurd (let h : None ≡ Some f = e in cc)
  feed_left left (x ∷ fs) f e = split (nat_eq x.token τ) (λ b. nat_eq x.token τ ≡ b → cond b (Some x) (feed_of τ fs) ≡ Some f → feed_of τ (cond b (record x { left = left }) x ∷ lefts τ left fs) ≡ Some (record f { left = left }))
      (λ _ y h. ap (λ b. cond b (Some (record x { left = left })) (feed_of τ (lefts τ left fs))) y ∙ ap (λ (z : Open). Some (record z { left = left })) (same_some x f h))
      (λ _ y h. ap (λ b. cond b (Some x) (feed_of τ (lefts τ left fs))) y ∙ feed_left left fs f h) refl e

  pub feed_left_apart : (t : ℕ) (left : List Shown) (fs : List Open) → nat_eq t τ ≡ false → feed_of τ (lefts t left fs) ≡ feed_of τ fs
  feed_left_apart t left [] n = refl
  feed_left_apart t left (f ∷ fs) n = elim (which (nat_eq f.token t)) [
    | inl y ↦ (let z = apart_from f.token t τ y n in
        ap (λ b. feed_of τ (cond b (record f { left = left }) f ∷ lefts t left fs)) y ∙ ap (λ b. cond b (Some (record f { left = left })) (feed_of τ (lefts t left fs))) z ∙ feed_left_apart t left fs n ∙ ap (λ b. cond b (Some f) (feed_of τ fs)) (sym z))
    | inr y ↦ ap (λ b. feed_of τ (cond b (record f { left = left }) f ∷ lefts t left fs)) y ∙ ap (λ z. cond (nat_eq f.token τ) (Some f) z) (feed_left_apart t left fs n)
  ]

  pub feed_more : (g : Open) (fs : List Open) → nat_eq g.token τ ≡ false → feed_of τ (fs ++ g ∷ []) ≡ feed_of τ fs
  feed_more g [] n = ap (λ b. cond b (Some g) None) n
  feed_more g (f ∷ fs) n = ap (λ z. cond (nat_eq f.token τ) (Some f) z) (feed_more g fs n)

  feed_new : (g : Open) (fs : List Open) → nat_eq g.token τ ≡ true → feed_of τ fs ≡ None → feed_of τ (fs ++ g ∷ []) ≡ Some g
  feed_new g [] n e = ap (λ b. cond b (Some g) None) n
  feed_new g (f ∷ fs) n e = split (nat_eq f.token τ) (λ b. cond b (Some f) (feed_of τ fs) ≡ None → cond b (Some f) (feed_of τ (fs ++ g ∷ [])) ≡ Some g) (λ _ h. absurd (let z : Some f ≡ None = h in cc)) (λ _ h. feed_new g fs n h) e

-- ---- what is still to be said
module _ {PL : Type 0} (k : Talk PL) (on : PL → Bool → ℕ → List Found → List Arm → Type 0) (τ : ℕ) (A : List Arm) (N : List ℕ) where
  -- nothing is open, or the feed with these arms and notes is, and this is still to be said of it
  abbrev V : Type 0
  V = Option (List Shown)

  abbrev list_of : V → List Shown
  list_of None = []
  list_of (Some p) = p

  abbrev Is : Bool → Option Open → V → Type 0
  Is c o None = o ≡ None
  Is c o (Some p) = (c ≡ false) × (f : Open) × (o ≡ Some f) × (f.arms ≡ A) × (f.notes ≡ N) × (f.left ≡ p)

  abbrev In : Books → V → Type 0
  In b v = Is (is_some (cursor_of τ b.cursors)) (feed_of τ b.feeds) v

  abbrev NoBatch : Answer → Type 0
  NoBatch (Batch ns xs s) = ⊥
  NoBatch other = Unit {0}

  abbrev NoBatches : Option Answer → Type 0
  NoBatches None = Unit {0}
  NoBatches (Some a) = NoBatch a

  abbrev tells : ℕ → Answer → List Shown
  tells t a = cond (nat_eq t τ) (items_in a) []

  -- a batch of the token is told only where its feed stays open
  abbrev FitsAnswer : V → Answer → Type 0
  FitsAnswer None a = NoBatch a
  FitsAnswer (Some r) a = AreNotes N a

  -- nothing is left behind a batch, or it is full
  abbrev IsFull : Books → Answer → Type 0
  IsFull kept (Batch ns xs s) = (f : Open) → feed_of τ kept.feeds ≡ Some f → (f.left ≡ []) ⊎ (f.batch ≤ length xs)
  IsFull kept other = Unit {0}

  abbrev Back : Books → ℕ → Option (List Arm) → V → Type 0
  Back b t None v = In b v
  Back b t (Some arms) v = nat_eq t τ ≡ false → In b v

  record FitTelling (b : Books) (t : ℕ) (a : Answer) (kept : Books) (lose : Option (List Arm)) (v : V) : Type 0 where
    rest : V
    here : In kept rest
    joins : tells t a ++ list_of rest ≡ list_of v
    none : v ≡ None → rest ≡ None
    gone : rest ≡ None → In b v
    noted : nat_eq t τ ≡ true → FitsAnswer rest a
    full : nat_eq t τ ≡ true → IsFull kept a
    back : Back b t lose v

  abbrev AsksOn : V → List Arm → Type 0
  AsksOn v arms = (v ≡ None) ⊎ ((v ≡ Some []) × (pre : List Arm) × (A ≡ pre ++ arms))

  abbrev Fit : Books → Task PL → V → Type 0
  Fit b (Planning t plan noreply count found arms) v = on plan noreply count found arms × In b v × (nat_eq t τ ≡ true → (v ≡ None) × (is_some (cursor_of τ b.cursors) ≡ false))
  Fit b (Visiting t arms points) v = In b v × (nat_eq t τ ≡ true → AsksOn v arms)
  Fit b (Telling t a kept lose after) v = FitTelling b t a kept lose v
  Fit b (Closing t arms firm a) v = In b v × NoBatches a

  abbrev FitOption : Books → Option (Task PL) → V → Type 0
  FitOption b None v = In b v
  FitOption b (Some t) v = Fit b t v

  abbrev FitNext : Next PL → V → Type 0
  FitNext x v = FitOption x.books x.task v

  -- as it was, or closed
  abbrev Res : Next PL → V → Type 0
  Res x v = FitNext x v ⊎ FitNext x None

  no_none : {B : Type 0} (p : List Shown) → Some p ≡ None → B
  no_none p e = absurd cc

  -- closing
  closed_out : (t : ℕ) (b : Books) → nat_eq t τ ≡ true → In (closed t b) None
  closed_out t b n = ap (λ z. feed_of τ (feeds_without τ z b.feeds)) (eqb-true t τ n) ∙ feed_out τ b.feeds

  closed_in : (t : ℕ) (b : Books) (v : V) → (nat_eq t τ ≡ true → v ≡ None) → In b v → In (closed t b) v
  closed_in t b None h i = feed_none τ t b.feeds i
  closed_in t b (Some p) h i = elim (which (nat_eq t τ)) [
    | inl y ↦ no_none p (h y)
    | inr y ↦ (cursor_none τ t b.cursors i.0, i.1, feed_kept τ t b.feeds y ∙ i.2, i.3, i.4, i.5)
  ]

  apart_in : (t : ℕ) (b : Books) (v : V) → nat_eq t τ ≡ false → In b v → In (closed t b) v
  apart_in t b v n i = closed_in t b v (λ y. absurd (true≢false (sym y ∙ n))) i

  other_items : (a : Answer) → NoBatch a → items_in a ≡ []
  other_items (Batch ns xs s) h = absurd h
  other_items a h = refl

  no_tells : (t : ℕ) (a : Answer) → NoBatch a → tells t a ≡ []
  no_tells t a h = split (nat_eq t τ) (λ b. cond b (items_in a) [] ≡ []) (λ _. other_items a h) (λ _. refl)

  fits_other : (v : V) (a : Answer) → NoBatch a → FitsAnswer v a
  fits_other None a h = h
  fits_other (Some r) (Batch ns xs s) h = absurd h
  fits_other (Some r) a h = tt

  full_other : (kept : Books) (a : Answer) → NoBatch a → IsFull kept a
  full_other kept (Batch ns xs s) h = absurd h
  full_other kept a h = tt

  back_of : (b : Books) (t : ℕ) (lose : Option (List Arm)) (v : V) → In b v → Back b t lose v
  back_of b t None v i = i
  back_of b t (Some arms) v i = λ _. i

  -- an answer that is no batch
  tell_other : (b : Books) (t : ℕ) (a : Answer) (kept : Books) (lose : Option (List Arm)) (v : V) → NoBatch a → In b v → In kept v → FitTelling b t a kept lose v
  tell_other b t a kept lose v h i j = record {
    rest = v;
    here = j;
    joins = ap (λ z. z ++ list_of v) (no_tells t a h);
    none = λ e. e;
    gone = λ _. i;
    noted = λ _. fits_other v a h;
    full = λ _. full_other kept a h;
    back = back_of b t lose v i;
  }

  -- an answer to another token
  tell_apart : (b : Books) (t : ℕ) (a : Answer) (kept : Books) (lose : Option (List Arm)) (v : V) → nat_eq t τ ≡ false → In b v → In kept v → FitTelling b t a kept lose v
  tell_apart b t a kept lose v n i j = record {
    rest = v;
    here = j;
    joins = ap (λ x. cond x (items_in a) [] ++ list_of v) n;
    none = λ e. e;
    gone = λ _. i;
    noted = λ y. absurd (true≢false (sym y ∙ n));
    full = λ y. absurd (true≢false (sym y ∙ n));
    back = back_of b t lose v i;
  }

  close_good : (b : Books) (t : ℕ) (arms : List Arm) (firm : Firm) (a : Option Answer) (v : V) → In b v → NoBatches a → FitNext (close b t arms firm a) v
  close_good b t [] firm None v i h = i
  close_good b t [] firm (Some a) v i h = tell_other b t a b None v h i i
  close_good b t (arm ∷ arms) firm a v i h = (i, h)

  -- closed, and then its other arms
  shut_good : (b : Books) (t : ℕ) (arms : List Arm) (firm : Firm) (a : Option Answer) (v : V) → (nat_eq t τ ≡ false → In b v) → NoBatches a → Res (close (closed t b) t arms firm a) v
  shut_good b t arms firm a v i h = elim (which (nat_eq t τ)) [
    | inl y ↦ inr (close_good (closed t b) t arms firm a None (closed_out t b y) h)
    | inr y ↦ inl (close_good (closed t b) t arms firm a v (apart_in t b v y (i y)) h)
  ]

  no_internal : (a : Option Answer) → NoBatches (internal_for a)
  no_internal None = tt
  no_internal (Some a) = tt

  quiet_internal : (noreply : Bool) → NoBatches (cond noreply None (Some Internal))
  quiet_internal true = tt
  quiet_internal false = tt

  wanted_good : (b : Books) (task : Task PL) (v : V) → Fit b task v → Res (wanted b task) v
  wanted_good b (Planning t plan noreply count found arms) v h = inl (close_good b t arms Settled (cond noreply None (Some Internal)) v h.1 (quiet_internal noreply))
  wanted_good b (Visiting t arms points) v h = inl (tell_other b t Internal b None v tt h.0 h.0)
  wanted_good b (Telling t a kept None after) v h = inl (tell_other b t Internal b None v tt h.back h.back)
  wanted_good b (Telling t a kept (Some arms) after) v h = shut_good b t arms Settled (Some Internal) v h.back tt
  wanted_good b (Closing t arms Settled a) v h = inl (close_good b t arms Settled (internal_for a) v h.0 (no_internal a))
  wanted_good b (Closing t arms Stops a) v h = inl (tell_other b t Internal b None v tt h.0 h.0)
  wanted_good b (Closing t arms Drops a) v h = inl (tell_other b t Internal b None v tt h.0 h.0)

  denied_good : (b : Books) (task : Task PL) (slot : ℕ) (cmd : Cmd) (v : V) → Fit b task v → Res (denied b task slot cmd) v
  denied_good b (Planning t plan noreply count found arms) slot cmd v h = inl (close_good b t (arms_denied slot cmd arms) Settled (cond noreply None (Some Internal)) v h.1 (quiet_internal noreply))
  denied_good b (Visiting t arms points) slot cmd v h = wanted_good b (Visiting t arms points) v h
  denied_good b (Telling t a kept lose after) slot cmd v h = wanted_good b (Telling t a kept lose after) v h
  denied_good b (Closing t [] firm a) slot cmd v h = wanted_good b (Closing t [] firm a) v h
  denied_good b (Closing t (arm ∷ arms) Stops a) slot cmd v h = inl (tell_other b t Internal b None v tt h.0 h.0)
  denied_good b (Closing t (arm ∷ arms) Drops a) slot cmd v h = shut_good b t arms Settled a v (λ _. h.0) h.1
  denied_good b (Closing t (arm ∷ arms) Settled a) slot cmd v h = shut_good b t arms Settled a v (λ _. h.0) h.1

  told_good : (t : ℕ) (kept : Books) (after : Option (List Arm)) (v : V) → In kept v → FitNext (told t kept after) v
  told_good t kept None v i = i
  told_good t kept (Some arms) v i = close_good kept t arms Stops (Some (Last [] None)) v i tt

  stop_feed_good : (b : Books) (t : ℕ) (o : Option Open) (v : V) → In b v → FitNext (stop_feed b t o) v
  stop_feed_good b t None v i = tell_other b t (Last [] None) b None v tt i i
  stop_feed_good b t (Some f) v i = either (λ x. FitNext x v) (has_token t b.waiting) _ _
      (λ _. tell_other b t (Last [] None) (record b { waiting = without t b.waiting }) None v tt i i)
      (λ _. close_good b t f.arms Stops (Some (Last [] None)) v i tt)

  -- a token with a cursor has no feed
  cursor_alone : (t : ℕ) (b : Books) (c : Cursor) (v : V) → cursor_of t b.cursors ≡ Some c → In b v → nat_eq t τ ≡ true → v ≡ None
  cursor_alone t b c None e i y = refl
  cursor_alone t b c (Some p) e i y = absurd (true≢false (ap (λ o. is_some o) (sym (ap (λ z. cursor_of z b.cursors) (sym (eqb-true t τ y)) ∙ e)) ∙ i.0))

  stop_good : (b : Books) (t : ℕ) (o : Option Cursor) (v : V) → cursor_of t b.cursors ≡ o → In b v → FitNext (stop b t o) v
  stop_good b t (Some c) v e i = tell_other b t (Last [] None) (closed t b) None v tt i (closed_in t b v (cursor_alone t b c v e i) i)
  stop_good b t None v e i = stop_feed_good b t (feed_of t b.feeds) v i

  fitted_other : (a : Answer) → NoBatch a → NoBatch (fitted k a)
  fitted_other a h = either NoBatch (is_long k a) (cut_to k a) a (λ _. tt) (λ _. h)

  tell_good : (b : Books) (t : ℕ) (a : Answer) (kept : Books) (arms : List Arm) (lose : Option (List Arm)) (v : V) → (nat_eq t τ ≡ false → In b v) → FitTelling b t a kept lose v → Res (tell k b t a kept arms lose) v
  tell_good b t a kept arms lose v i f = either (λ x. Res x v) (is_long k a) (cut k b t a arms) (at b (Telling t a kept lose None))
      (λ _. shut_good b t arms Settled (Some (cut_to k a)) v i tt) (λ _. inl f)

  now_good : (b : Books) (t : ℕ) (a : Answer) (v : V) → NoBatch a → In b v → FitNext (tell_now k b t a) v
  now_good b t a v h i = tell_other b t (fitted k a) b None v (fitted_other a h) i i

  settle_good : (b : Books) (t : ℕ) (arms : List Arm) (a : Answer) (v : V) → NoBatch a → In b v → FitNext (settle k b t arms a) v
  settle_good b t arms a v h i = close_good b t arms Settled (Some (fitted k a)) v i (fitted_other a h)

  refuse_good : (b : Books) (t : ℕ) (noreply : Bool) (a : Answer) (v : V) → NoBatch a → In b v → FitNext (refuse k b t noreply a) v
  refuse_good b t true a v h i = i
  refuse_good b t false a v h i = now_good b t a v h i

  -- ---- a CONTINUE
  rest_in : (t : ℕ) (rest : List Plain) (b : Books) (v : V) → In b v → In (with_rest t rest b) v
  rest_in t rest b None i = i
  rest_in t rest b (Some p) i = (cursor_rests τ t rest b.cursors i.0, i.1, i.2, i.3, i.4, i.5)

  continue_cursor_good : (b : Books) (c : Cursor) (v : V) → (nat_eq c.token τ ≡ true → v ≡ None) → In b v → Res (continue_cursor k b c) v
  continue_cursor_good b c v h i = either (λ x. Res x v) (nat_le (length c.rest) c.batch) _ _
      (λ _. tell_good b c.token (Last c.rest None) (closed c.token b) [] None v (λ _. i) (tell_other b c.token (Last c.rest None) (closed c.token b) None v tt i (closed_in c.token b v h i)))
      (λ _. tell_good b c.token (Part (take c.batch c.rest) None) (with_rest c.token (drop c.batch c.rest) b) [] None v (λ _. i) (tell_other b c.token (Part (take c.batch c.rest) None) (with_rest c.token (drop c.batch c.rest) b) None v tt i (rest_in c.token (drop c.batch c.rest) b v i)))

  -- the feed of the token that was found
  record Own (b : Books) (f : Open) (p : List Shown) : Type 0 where
    cursor : is_some (cursor_of τ b.cursors) ≡ false
    found : feed_of τ b.feeds ≡ Some f
    arms : f.arms ≡ A
    notes : f.notes ≡ N
    left : f.left ≡ p

  own_of : (b : Books) (f : Open) (v : V) → feed_of τ b.feeds ≡ Some f → In b v → (p : List Shown) × (v ≡ Some p) × Own b f p
  own_of b f None e i = absurd (let h : Some f ≡ None = sym e ∙ i in cc)
  own_of b f (Some p) e i =
      let s : i.1 ≡ f = same_some i.1 f (sym i.2 ∙ e) in
      (p, refl, record { cursor = i.0; found = e; arms = ap (λ (z : Open). z.arms) (sym s) ∙ i.3; notes = ap (λ (z : Open). z.notes) (sym s) ∙ i.4; left = ap (λ (z : Open). z.left) (sym s) ∙ i.5 })

  own_in : (b : Books) (f : Open) (p : List Shown) → Own b f p → In b (Some p)
  own_in b f p o = (o.cursor, f, o.found, o.arms, o.notes, o.left)

  left_in : (t : ℕ) (left : List Shown) (b : Books) (v : V) → nat_eq t τ ≡ false → In b v → In (with_left t left b) v
  left_in t left b None n i = feed_left_apart τ t left b.feeds n ∙ i
  left_in t left b (Some p) n i = (i.0, i.1, feed_left_apart τ t left b.feeds n ∙ i.2, i.3, i.4, i.5)

  own_left : (t : ℕ) (left : List Shown) (b : Books) (f : Open) (p : List Shown) → nat_eq t τ ≡ true → Own b f p → In (with_left t left b) (Some left)
  own_left t left b f p y o = (o.cursor, record f { left = left }, ap (λ z. feed_of τ (lefts τ z left b.feeds)) (eqb-true t τ y) ∙ feed_left τ left b.feeds f o.found, o.arms, o.notes, refl)

  -- a batch of the feed, of which these are still to be said
  tell_own : (b : Books) (t : ℕ) (f : Open) (xs left p q : List Shown) (s : Option Stamped) (lose : Option (List Arm)) → nat_eq t τ ≡ true → Own b f q → xs ++ left ≡ p → (left ≡ []) ⊎ (f.batch ≤ length xs) → Back b t lose (Some p) → FitTelling b t (Batch f.notes xs s) (with_left t left b) lose (Some p)
  tell_own b t f xs left p q s lose y o j fill back = record {
    rest = Some left;
    here = own_left t left b f q y o;
    joins = ap (λ x. cond x xs [] ++ left) y ∙ j;
    none = λ e. no_none p e;
    gone = λ e. no_none left e;
    noted = λ _. o.notes;
    full = λ _ g e.
        let g_is : record f { left = left } ≡ g = same_some (record f { left = left }) g (sym (feed_left τ left b.feeds f o.found) ∙ ap (λ z. feed_of τ (lefts τ z left b.feeds)) (sym (eqb-true t τ y)) ∙ e) in
        subst (λ (z : Open). (z.left ≡ []) ⊎ (z.batch ≤ length xs)) g_is fill;
    back = back;
  }

  -- a feed is found by its own token
  own_token : (t : ℕ) (b : Books) (f : Open) → feed_of t b.feeds ≡ Some f → f.token ≡ t
  own_token t b f e = eqb-true f.token t (found_token 0 0 false t b.feeds f e)

  at_token : (t : ℕ) (b : Books) (f : Open) → feed_of t b.feeds ≡ Some f → feed_of f.token b.feeds ≡ Some f
  at_token t b f e = ap (λ z. feed_of z b.feeds) (own_token t b f e) ∙ e

  here_token : (b : Books) (f : Open) → feed_of f.token b.feeds ≡ Some f → nat_eq f.token τ ≡ true → feed_of τ b.feeds ≡ Some f
  here_token b f e y = ap (λ z. feed_of z b.feeds) (sym (eqb-true f.token τ y)) ∙ e

  continue_left_good : (b : Books) (f : Open) (left : List Shown) (v : V) → feed_of f.token b.feeds ≡ Some f → f.left ≡ left → In b v → Res (continue_left k b f left) v
  continue_left_good b f [] v e l i = inl (
    i,
    λ y. let w = own_of b f v (here_token b f e y) i in inr (w.1 ∙ ap (λ z. Some z) (sym w.2.left ∙ l), [], sym w.2.arms),
  )
  continue_left_good b f (x ∷ xs) v e l i = elim (which (nat_eq f.token τ)) [
    | inl y ↦ (let w = own_of b f v (here_token b f e y) i in
        let j : take f.batch (x ∷ xs) ++ drop f.batch (x ∷ xs) ≡ w.0 = take-append-drop f.batch (x ∷ xs) ∙ sym l ∙ w.2.left in
        tell_good b f.token (Batch f.notes (take f.batch (x ∷ xs)) None) (with_left f.token (drop f.batch (x ∷ xs)) b) f.arms None v (λ _. i)
        (subst (λ z. FitTelling b f.token (Batch f.notes (take f.batch (x ∷ xs)) None) (with_left f.token (drop f.batch (x ∷ xs)) b) None z) (sym w.1)
        (tell_own b f.token f (take f.batch (x ∷ xs)) (drop f.batch (x ∷ xs)) w.0 w.0 None None y w.2 j (cut_full f.batch (x ∷ xs)) (own_in b f w.0 w.2))))
    | inr y ↦ tell_good b f.token (Batch f.notes (take f.batch (x ∷ xs)) None) (with_left f.token (drop f.batch (x ∷ xs)) b) f.arms None v (λ _. i)
        (tell_apart b f.token (Batch f.notes (take f.batch (x ∷ xs)) None) (with_left f.token (drop f.batch (x ∷ xs)) b) None v y i (left_in f.token (drop f.batch (x ∷ xs)) b v y i))
  ]

  continue_feed_good : (b : Books) (t : ℕ) (o : Option Open) (v : V) → feed_of t b.feeds ≡ o → In b v → Res (continue_feed k b t o) v
  continue_feed_good b t None v e i = inl (now_good b t _ v tt i)
  continue_feed_good b t (Some f) v e i = either (λ x. Res x v) (has_token t b.waiting) _ _ (λ _. inl (now_good b t _ v tt i)) (λ _. continue_left_good b f f.left v (at_token t b f e) refl i)

  continue_good : (b : Books) (t : ℕ) (o : Option Cursor) (v : V) → cursor_of t b.cursors ≡ o → In b v → Res (continue_on k b t o) v
  continue_good b t (Some c) v e i = continue_cursor_good b c v (λ y. cursor_alone t b c v e i (ap (λ z. nat_eq z τ) (sym (eqb-true c.token t (cursor_found τ t b.cursors c e))) ∙ y)) i
  continue_good b t None v e i = continue_feed_good b t (feed_of t b.feeds) v refl i

  visit_feed_good : (b : Books) (t : ℕ) (o : Option Open) (v : V) → feed_of t b.feeds ≡ o → In b v → Res (visit_feed k b t o) v
  visit_feed_good b t None v e i = inl i
  visit_feed_good b t (Some f) v e i = continue_left_good b f f.left v (at_token t b f e) refl i

  -- ---- a Take
  -- what a step gave is behind what was still to be said, or the feed is closed
  record Out (x : Next PL) (v : V) (new : List Shown) : Type 0 where
    now : V
    fits : FitNext x now
    goes : (now ≡ None) ⊎ ((p : List Shown) × (v ≡ Some p) × (now ≡ Some (p ++ new)))

  as_it_was : (v : V) → (v ≡ None) ⊎ ((p : List Shown) × (v ≡ Some p) × (v ≡ Some (p ++ [])))
  as_it_was None = inl refl
  as_it_was (Some p) = inr (p, refl, ap (λ z. Some z) (sym (append-nil p)))

  out_of : (x : Next PL) (v : V) → Res x v → Out x v []
  out_of x v (inl h) = record { now = v; fits = h; goes = as_it_was v }
  out_of x v (inr h) = record { now = None; fits = h; goes = inl refl }

  next_arm_apart : (b : Books) (t : ℕ) (arms : List Arm) (points : List Point) (v : V) → nat_eq t τ ≡ false → In b v → FitNext (next_arm k b t arms points) v
  next_arm_apart b t [] points v n i = i
  next_arm_apart b t (arm ∷ arms) points v n i = (i, λ y. absurd (true≢false (sym y ∙ n)))

  gone_good : (b : Books) (f : Open) (arm : Arm) (points : List Point) (arms : List Arm) (v : V) → (nat_eq f.token τ ≡ true → list_of v ≡ []) → In b v → FitNext (gone k b f arm points arms) v
  gone_good b f arm points arms v h i = by_arms arms
    where
      fault : Answer
      fault = Failed errors.OpFailed arm.dropped (Some (stamped b.names points))

      quiet : NoBatch (fitted k fault)
      quiet = fitted_other fault tt

      by_arms : (arms : List Arm) → FitNext (gone k b f arm points arms) v
      by_arms (x ∷ xs) = close_good b f.token (x ∷ xs) Drops (Some (fitted k fault)) v i quiet
      by_arms [] = elim (which (nat_eq f.token τ)) [
        | inl y ↦ record {
          rest = None;
          here = closed_out f.token b y;
          joins = ap (λ z. z ++ []) (no_tells f.token (fitted k fault) quiet) ∙ sym (h y);
          none = λ _. refl;
          gone = λ _. i;
          noted = λ _. quiet;
          full = λ _. full_other (closed f.token b) (fitted k fault) quiet;
          back = i;
        }
        | inr y ↦ tell_other b f.token (fitted k fault) (closed f.token b) None v quiet i (apart_in f.token b v y i)
      ]

  batch_apart : (b : Books) (f : Open) (n : ℕ) (arm : Arm) (points : List Point) (skipped last : ℕ) (items : List (ℕ × Plain)) (v : V) → nat_eq f.token τ ≡ false → In b v → Res (batch_of k b f n arm points skipped last items) v
  batch_apart b f n arm points skipped last items v y i = either (λ x. Res x v) (is_empty (skipped_item n arm skipped last ++ change_items n arm items)) _ _
      (λ _. inl i)
      (λ _. tell_good b f.token _ (with_left f.token (drop f.batch (change_items n arm items)) b) f.arms (Some f.arms) v (λ _. i)
      (tell_apart b f.token _ (with_left f.token (drop f.batch (change_items n arm items)) b) (Some f.arms) v y i (left_in f.token (drop f.batch (change_items n arm items)) b v y i)))

  took_apart : (b : Books) (f : Open) (arm : Arm) (arms : List Arm) (points : List Point) (s : Said Summary Plain) (v : V) → nat_eq f.token τ ≡ false → In b v → Res (took_said k b f arm arms points s) v
  took_apart b f arm arms points (said_as.Batch skipped last items) v y i = batch_apart b f _ arm points skipped last items v y i
  took_apart b f arm arms points said_as.Gone v y i = inl (gone_good b f arm points (others arm f.arms) v (λ t. absurd (true≢false (sym t ∙ y))) i)
  took_apart b f arm arms points (said_as.HistoryFull count) v y i = shut_good b f.token f.arms Settled (Some (fitted k (Failed errors.ResourceLimit full None))) v (λ _. i) (fitted_other (Failed errors.ResourceLimit full None) tt)
  took_apart b f arm arms points other v y i = inl (next_arm_apart b f.token arms points v y i)

  batch_own : (b : Books) (f : Open) (n : ℕ) (arm : Arm) (points : List Point) (skipped last : ℕ) (items : List (ℕ × Plain)) → nat_eq f.token τ ≡ true → Own b f [] → Out (batch_of k b f n arm points skipped last items) (Some []) (printed n arm (said_as.Batch skipped last items))
  batch_own b f n arm points skipped last items y o =
      let new : List Shown = skipped_item n arm skipped last ++ change_items n arm items in
      let front : List Shown = skipped_item n arm skipped last ++ take f.batch (change_items n arm items) in
      let back : List Shown = drop f.batch (change_items n arm items) in
      let j : front ++ back ≡ new = append_assoc (skipped_item n arm skipped last) (take f.batch (change_items n arm items)) back ∙ ap (λ z. skipped_item n arm skipped last ++ z) (take-append-drop f.batch (change_items n arm items)) in
      let fill : (back ≡ []) ⊎ (f.batch ≤ length front) =
      elim (cut_full f.batch (change_items n arm items)) [ inl h ↦ inl h | inr h ↦ inr (omega (arith, h, length-append (skipped_item n arm skipped last) (take f.batch (change_items n arm items)))) ] in
      either (λ x. Out x (Some []) new) (is_empty new) (done (waits f.token b)) (tell k b f.token (Batch f.notes front (Some (stamped b.names points))) (with_left f.token back b) f.arms (Some f.arms))
      (λ e. record { now = Some []; fits = own_in b f [] o; goes = inr ([], refl, ap (λ z. Some z) (sym (empty_of new e))) })
      (λ _. elim (tell_good b f.token (Batch f.notes front (Some (stamped b.names points))) (with_left f.token back b) f.arms (Some f.arms) (Some new) (λ n. absurd (true≢false (sym y ∙ n)))
      (tell_own b f.token f front back new [] (Some (stamped b.names points)) (Some f.arms) y o j fill (λ n. absurd (true≢false (sym y ∙ n))))) [
        | inl h ↦ record { now = Some new; fits = h; goes = inr ([], refl, refl) }
        | inr h ↦ record { now = None; fits = h; goes = inl refl }
      ])

  next_arm_own : (b : Books) (f : Open) (arm : Arm) (pre arms : List Arm) (points : List Point) → A ≡ pre ++ arm ∷ arms → Own b f [] → FitNext (next_arm k b f.token arms points) (Some [])
  next_arm_own b f arm pre [] points e o = own_in b f [] o
  next_arm_own b f arm pre (x ∷ xs) points e o = (own_in b f [] o, λ _. inr (refl, pre ++ arm ∷ [], e ∙ sym (append_assoc pre (arm ∷ []) (x ∷ xs))))

  same_none : (x : Next PL) → FitNext x (Some []) → Out x (Some []) []
  same_none x h = record { now = Some []; fits = h; goes = inr ([], refl, refl) }

  took_own : (b : Books) (f : Open) (n : ℕ) (arm : Arm) (pre arms : List Arm) (points : List Point) (s : Said Summary Plain) → length f.arms - length (arm ∷ arms) ≡ n → A ≡ pre ++ arm ∷ arms → nat_eq f.token τ ≡ true → Own b f []
      → Out (took_said k b f arm arms points s) (Some []) (printed n arm s)
  took_own b f n arm pre arms points (said_as.Batch skipped last items) l e y o = subst (λ z. Out (batch_of k b f z arm points skipped last items) (Some []) (printed n arm (said_as.Batch skipped last items))) (sym l) (batch_own b f n arm points skipped last items y o)
  took_own b f n arm pre arms points said_as.Gone l e y o = same_none _ (gone_good b f arm points (others arm f.arms) (Some []) (λ _. refl) (own_in b f [] o))
  took_own b f n arm pre arms points (said_as.HistoryFull count) l e y o = out_of _ (Some []) (shut_good b f.token f.arms Settled (Some (fitted k (Failed errors.ResourceLimit full None))) (Some []) (λ _. own_in b f [] o) (fitted_other (Failed errors.ResourceLimit full None) tt))
  took_own b f n arm pre arms points other l e y o = same_none _ (next_arm_own b f arm pre arms points e o)

  module _ (well : PlansMind k on) (apart : are_apart A ≡ true) where
    abbrev new_by : Task PL → ℕ → Cmd → Said Summary Plain → List Shown
    new_by task slot cmd s = cond (task_asks τ task) (given_by A slot cmd s) []

    took_good : (b : Books) (t : ℕ) (arm : Arm) (arms : List Arm) (points : List Point) (slot : ℕ) (order : Order) (r : Told) (f : Open) (v : V) → feed_of t b.feeds ≡ Some f → slot ≡ arm.slot → order ≡ take_order arm.feed f.batch
        → Fit b (Visiting t (arm ∷ arms) points) v → (pts : List Point) → Out (took_said k b f arm arms pts r.said) v (new_by (Visiting t (arm ∷ arms) points) slot order.cmd r.said)
    took_good b t arm arms points slot order r f v o a c h pts =
        let tok : f.token ≡ t = own_token t b f o in
        elim (which (nat_eq t τ)) [
          | inr n ↦ subst (λ z. Out (took_said k b f arm arms pts r.said) v z) (sym (ap (λ x. cond x (given_by A slot order.cmd r.said) []) n))
              (out_of (took_said k b f arm arms pts r.said) v (took_apart b f arm arms pts r.said v (ap (λ z. nat_eq z τ) tok ∙ n) h.0))
          | inl y ↦ (let w = own_of b f v (ap (λ z. feed_of z b.feeds) (sym (eqb-true t τ y)) ∙ o) h.0 in
              elim (h.1 y) [
                | inl none ↦ absurd (let z : Some w.0 ≡ None = sym w.1 ∙ none in cc)
                | inr asks ↦ (let own : Own b f [] = subst (Own b f) (list_at (sym w.1 ∙ asks.0)) w.2 in
                    let at : length f.arms - length (arm ∷ arms) ≡ length asks.1 = ap (λ z. length z - length (arm ∷ arms)) (own.arms ∙ asks.2) ∙ place_of r.said asks.1 arms arm in
                    let none_before : 0 + length asks.1 ≡ length asks.1 = omega arith in
                    let new : new_by (Visiting t (arm ∷ arms) points) slot order.cmd r.said ≡ printed (length asks.1) arm r.said =
                    (λ i. cond (y i) (given_by A (a i) (c i).cmd r.said) []) ∙ ap (λ z. printed_from 0 z arm.slot arm.feed r.said) asks.2 ∙ printed_place r.said 0 arm asks.1 arms (subst (λ z. are_apart z ≡ true) asks.2 apart) ∙ ap (λ z. printed z arm r.said) none_before in
                    subst (λ z. Out (took_said k b f arm arms pts r.said) z (new_by (Visiting t (arm ∷ arms) points) slot order.cmd r.said)) (sym asks.0)
                    (subst (λ z. Out (took_said k b f arm arms pts r.said) (Some []) z) (sym new) (took_own b f (length asks.1) arm asks.1 arms pts r.said at asks.2 (ap (λ z. nat_eq z τ) tok ∙ y) own)))
              ])
        ]
      where
        list_at : {p q : List Shown} → Some p ≡ Some q → p ≡ q
        list_at e = ap list_of e

    ran_good : (b : Books) (task : Task PL) (slot : ℕ) (order : Order) (r : Told) (saved : Saved) (v : V) → Runs k b task slot order → Fit b task v → Out (ran k b task slot order.cmd r saved) v (new_by task slot order.cmd r.said)
    ran_good b (Planning t plan noreply count found arms) slot order r saved v e h = record { now = v; fits = ((well.runs plan noreply count found arms slot order r saved h.0 e).1, h.1, h.2); goes = as_it_was v }
    ran_good b (Visiting t [] points) slot order r saved v e h = absurd e
    ran_good b (Visiting t (arm ∷ arms) points) slot order r saved v e h =
        subst (λ o. Out (took k b t arm arms points r o) v (new_by (Visiting t (arm ∷ arms) points) slot order.cmd r.said)) (sym e.1) (took_good b t arm arms points slot order r e.0 v e.1 e.2 e.3 h _)
    ran_good b (Telling t a kept lose after) slot order r saved v e h = absurd e
    ran_good b (Closing t [] firm a) slot order r saved v e h = absurd e
    ran_good b (Closing t (arm ∷ arms) firm a) slot order r saved v e h = out_of _ v (shut_good b t arms Settled a v (λ _. h.0) h.1)

    found_good : (b u : Books) (task : Task PL) (x : Found) (move : Move) (v : V) → (In b v → In u v) → (is_some (cursor_of τ b.cursors) ≡ false → is_some (cursor_of τ u.cursors) ≡ false) → IsOther x → Asks k task move → Fit b task v → FitNext (found_more k u task x) v
    found_good b u (Planning t plan noreply count found arms) x move v i c o e h = (well.finds plan noreply count found arms x h.0 o, i h.1, λ y. ((h.2 y).0, c (h.2 y).1))
    found_good b u (Visiting t arms points) x move v i c o e h = absurd e
    found_good b u (Telling t a kept lose after) x move v i c o e h = absurd e
    found_good b u (Closing t arms firm a) x move v i c o e h = absurd e

    -- ---- what a request comes to
    cursor_in : (c : Cursor) (b : Books) (v : V) → (nat_eq c.token τ ≡ true → v ≡ None) → In b v → In (with_cursor c b) v
    cursor_in c b None h i = i
    cursor_in c b (Some p) h i = elim (which (nat_eq c.token τ)) [ inl y ↦ no_none p (h y) | inr n ↦ (cursor_more τ c b.cursors n i.0, i.1, i.2, i.3, i.4, i.5) ]

    feed_in : (g : Open) (b : Books) (v : V) → nat_eq g.token τ ≡ false → In b v → In (with_feed g b) v
    feed_in g b None n i = feed_more τ g b.feeds n ∙ i
    feed_in g b (Some p) n i = (i.0, i.1, feed_more τ g b.feeds n ∙ i.2, i.3, i.4, i.5)

    -- a feed of this token
    abbrev IsOwn : ℕ → Answered → Type 0
    IsOwn t (Feed arms notes items) = nat_eq t τ ≡ true
    IsOwn t other = ⊥

    comes_good : (b : Books) (t : ℕ) (batch : ℕ) (found : List Found) (arms : List Arm) (to : Answered) (v : V) → In b v → (nat_eq t τ ≡ true → v ≡ None) → Res (comes_to k b t batch found arms to) v ⊎ IsOwn t to
    comes_good b t batch found arms Unsent v i h = inl (inl (close_good b t arms Settled None v i tt))
    comes_good b t batch found arms (One x) v i h = inl (inl (settle_good b t arms _ v tt i))
    comes_good b t batch found arms (Stream xs) v i h = inl (either (λ x. Res x v) (nat_le (length xs) batch) _ _
        (λ _. inl (settle_good b t arms _ v tt i))
        (λ _. tell_good b t _ (with_cursor (record { token = t; rest = drop batch xs; batch = batch }) b) arms None v (λ _. i)
        (tell_other b t _ (with_cursor (record { token = t; rest = drop batch xs; batch = batch }) b) None v tt i (cursor_in (record { token = t; rest = drop batch xs; batch = batch }) b v h i))))
    comes_good b t batch found arms (Feed feed notes items) v i h = elim (which (nat_eq t τ)) [
      | inl y ↦ inr y
      | inr n ↦ inl (tell_good b t _ (with_feed (record { token = t; arms = feed; left = drop batch items; batch = batch; notes = notes }) b) feed (Some feed) v (λ _. i)
          (tell_apart b t _ (with_feed (record { token = t; arms = feed; left = drop batch items; batch = batch; notes = notes }) b) (Some feed) v n i (feed_in (record { token = t; arms = feed; left = drop batch items; batch = batch; notes = notes }) b v n i)))
    ]
    comes_good b t batch found arms (Fault error text) v i h = inl (inl (settle_good b t arms _ v tt i))
    comes_good b t batch found arms Wanting v i h = inl (inl (close_good b t arms Settled _ v i tt))

    -- these arms and notes are those of a feed that is opened
    opens_good : (b : Books) (t : ℕ) (batch : ℕ) (found : List Found) (arms : List Arm) (items : List Shown) → nat_eq t τ ≡ true → feed_of τ b.feeds ≡ None → is_some (cursor_of τ b.cursors) ≡ false → Res (comes_to k b t batch found arms (Feed A N items)) (Some items)
    opens_good b t batch found arms items y none alone =
        let g : Open = record { token = t; arms = A; left = drop batch items; batch = batch; notes = N } in
        tell_good b t (Batch N (take batch items) (Some (stamped b.names (points_from [] found)))) (with_feed g b) A (Some A) (Some items) (λ n. absurd (true≢false (sym y ∙ n)))
        (record {
          rest = Some (drop batch items);
          here = (alone, g, feed_new τ g b.feeds y none, refl, refl, refl);
          joins = ap (λ x. cond x (take batch items) [] ++ drop batch items) y ∙ take-append-drop batch items;
          none = λ e. no_none items e;
          gone = λ e. no_none (drop batch items) e;
          noted = λ _. refl;
          full = λ _ h e. subst (λ (z : Open). (z.left ≡ []) ⊎ (z.batch ≤ length (take batch items))) (same_some g h (sym (feed_new τ g b.feeds y none) ∙ e)) (cut_full batch items);
          back = λ n. absurd (true≢false (sym y ∙ n));
        })

    -- ---- a frame
    start_alone : (b : Books) (t : ℕ) (v : V) → is_open t b ≡ false → In b v → nat_eq t τ ≡ true → (v ≡ None) × (is_some (cursor_of τ b.cursors) ≡ false)
    start_alone b t v e i y =
        let z = or_false (is_some (cursor_of t b.cursors)) (is_some (feed_of t b.feeds)) e in
        let s : t ≡ τ = eqb-true t τ y in
        (shut v i (ap (λ x. is_some (feed_of x b.feeds)) (sym s) ∙ z.1), ap (λ x. is_some (cursor_of x b.cursors)) (sym s) ∙ z.0)
      where
        shut : (v : V) → In b v → is_some (feed_of τ b.feeds) ≡ false → v ≡ None
        shut None i h = refl
        shut (Some p) i h = absurd (true≢false (sym (ap (λ o. is_some o) i.2) ∙ h))

    begin_good : (b : Books) (t : ℕ) (x : Asked PL) (v : V) → In b v → Res (begin k b t x) v
    begin_good b t (Unreadable noreply text) v i = inl (refuse_good b t noreply _ v tt i)
    begin_good b t (Unplanned noreply text) v i = either (λ x. Res x v) (is_open t b) _ _ (λ _. inl (refuse_good b t noreply _ v tt i)) (λ _. inl (refuse_good b t noreply _ v tt i))
    begin_good b t (Start noreply plan) v i = either (λ x. Res x v) (is_open t b) _ _ (λ _. inl (refuse_good b t noreply _ v tt i)) (λ e. inl (well.begins plan noreply (opened b), i, start_alone b t v e i))
    begin_good b t Continue v i = continue_good b t (cursor_of t b.cursors) v refl i
    begin_good b t Stop v i = inl (stop_good b t (cursor_of t b.cursors) v refl i)
    begin_good b t NoreplyWait v i = inl (now_good b t _ v tt i)
    begin_good b t ServerInfo v i = inl (now_good b t _ v tt i)

    takes_up_good : (b : Books) (t : ℕ) (bytes : List ℕ) (is_read : Bool) (v : V) → In b v → Res (takes_up k b t bytes is_read) v
    takes_up_good b t bytes true v i = begin_good b t (k.asked bytes) v i
    takes_up_good b t bytes false v i = inl (tell_other b t Internal b None v tt i i)

    -- ---- a step
    abbrev FitD : Books → Doing PL → V → Type 0
    FitD b Rest v = In b v
    FitD b (Visits left) v = In b v
    FitD b (Busy back task) v = Fit b task v
    FitD b (Leaving arms end) v = v ≡ None

    abbrev FitM : Mach PL → V → Type 0
    FitM m v = FitD m.books m.doing v

    fit_next : (back : Option (List ℕ)) (b : Books) (t : Option (Task PL)) (v : V) → FitOption b t v → FitD b (doing_next back t) v
    fit_next None b None v h = h
    fit_next (Some left) b None v h = h
    fit_next back b (Some t) v h = h

    at_doing : (m : Mach PL) (d : Doing PL) (v : V) → m.doing ≡ d → FitM m v → FitD m.books d v
    at_doing m d v e h = subst (λ z. FitD m.books z v) e h

    record StepTo (m n : Mach PL) (e : Event) (v : V) : Type 0 where
      now : V
      fits : FitM n now
      goes : (now ≡ None) ⊎ ((p : List Shown) × (q : List Shown) × (v ≡ Some p) × (now ≡ Some q) × (said_by τ e ++ q ≡ p ++ taken_at τ A m.doing e))
      noted : HasNotes τ N e

    -- nothing is said or given
    abbrev Idles : Mach PL → Event → Type 0
    Idles m e = (said_by τ e ≡ []) × (taken_at τ A m.doing e ≡ []) × HasNotes τ N e

    same_goes : (m : Mach PL) (e : Event) (v : V) → Idles m e → (v ≡ None) ⊎ ((p : List Shown) × (q : List Shown) × (v ≡ Some p) × (v ≡ Some q) × (said_by τ e ++ q ≡ p ++ taken_at τ A m.doing e))
    same_goes m e None d = inl refl
    same_goes m e (Some p) d = inr (p, p, refl, refl, ap (λ z. z ++ p) d.0 ∙ sym (append-nil p) ∙ ap (λ z. p ++ z) (sym d.1))

    stays_as : (m n x : Mach PL) (e : Event) (v : V) → n ≡ x → FitM x v → Idles m e → StepTo m n e v
    stays_as m n x e v g h d = record { now = v; fits = subst (λ z. FitM z v) (sym g) h; goes = same_goes m e v d; noted = d.2 }

    leaves_off : (m n x : Mach PL) (e : Event) (v : V) → n ≡ x → FitM x None → HasNotes τ N e → StepTo m n e v
    leaves_off m n x e v g h d = record { now = None; fits = subst (λ z. FitM z None) (sym g) h; goes = inl refl; noted = d }

    by_next : (m n x : Mach PL) (e : Event) (back : Option (List ℕ)) (y : Next PL) (v : V) → n ≡ goes_on x back y → Res y v → Idles m e → StepTo m n e v
    by_next m n x e back y v g (inl h) d = stays_as m n (goes_on x back y) e v g (fit_next back y.books y.task v h) d
    by_next m n x e back y v g (inr h) d = leaves_off m n (goes_on x back y) e v g (fit_next back y.books y.task None h) d.2

    -- a plan comes to a feed of this token, of which nothing was open
    record Opens (m n : Mach PL) : Type 0 where
      comes : PlanEnds k m n
      own : nat_eq comes.token τ ≡ true
      feed : IsOwn comes.token comes.to
      course : on comes.plan comes.noreply comes.count comes.found comes.arms
      none : feed_of τ m.books.feeds ≡ None
      alone : is_some (cursor_of τ m.books.cursors) ≡ false

    idles : (m : Mach PL) (e : Event) → said_by τ e ≡ [] → taken_at τ A m.doing e ≡ [] → HasNotes τ N e → Idles m e
    idles m e a b c = (a, b, c)

    planned : (m n : Mach PL) (e : Event) (back : Option (List ℕ)) (task : Task PL) (u : Books) (x : Found) (move : Move) (v : V) → m.doing ≡ Busy back task → n ≡ goes_on m back (found_more k u task x) → (In m.books v → In u v)
        → (is_some (cursor_of τ m.books.cursors) ≡ false → is_some (cursor_of τ u.cursors) ≡ false) → IsOther x → Asks k task move → FitM m v → Idles m e → StepTo m n e v
    planned m n e back task u x move v d g i c o a h z = by_next m n m e back (found_more k u task x) v g (inl (found_good m.books u task x move v i c o a (at_doing m (Busy back task) v d h))) z

    refused : (m n : Mach PL) (e : Event) (back : Option (List ℕ)) (task : Task PL) (v : V) → m.doing ≡ Busy back task → n ≡ goes_on m back (wanted m.books task) → FitM m v → Idles m e → StepTo m n e v
    refused m n e back task v d g h z = by_next m n m e back (wanted m.books task) v g (wanted_good m.books task v (at_doing m (Busy back task) v d h)) z

    no_batch_notes : (a : Answer) → NoBatch a → AreNotes N a
    no_batch_notes (Batch ns xs s) h = absurd h
    no_batch_notes a h = tt

    notes_of : (v : V) (a : Answer) → FitsAnswer v a → AreNotes N a
    notes_of None a h = no_batch_notes a h
    notes_of (Some r) a h = h

    step_fits : (m n : Mach PL) (e : Event) (v : V) → FitM m v → Step k m e n → StepTo m n e v ⊎ ((e ≡ Come) × (v ≡ None) × Opens m n)
    step_fits m n Turn v h s = inl (stays_as m n _ Turn v s.1 (at_doing m Rest v s.0 h) (refl, refl, tt))
    step_fits m n Visit v h s = inl (by_next m n m Visit (Some s.1) (visit k m.books s.0) v s.3 (visit_feed_good m.books s.0 (feed_of s.0 m.books.feeds) v refl (at_doing m (Visits (s.0 ∷ s.1)) v s.2 h)) (refl, refl, tt))
    step_fits m n (Greeted true) v h s = inl (elim s.2 [
      | inl g ↦ stays_as m n _ (Greeted true) v g.4 (at_doing m (Visits []) v s.0 h) (refl, refl, tt)
      | inr g ↦ leaves_off m n _ (Greeted true) v g.4 refl tt
    ])
    step_fits m n (Greeted false) v h s = inl (elim s.2 [ inl g ↦ leaves_off m n _ (Greeted false) v g.4 refl tt | inr g ↦ leaves_off m n _ (Greeted false) v g.4 refl tt ])
    step_fits m n (Login true) v h s = inl (elim s.2 [
      | inl g ↦ stays_as m n _ (Login true) v g.5 (at_doing m (Visits []) v s.0 h) (refl, refl, tt)
      | inr r ↦ elim r [ inl g ↦ stays_as m n _ (Login true) v g.4 (at_doing m (Visits []) v s.0 h) (refl, refl, tt) | inr g ↦ leaves_off m n _ (Login true) v g.3 refl tt ]
    ])
    step_fits m n (Login false) v h s = inl (elim s.2 [ inl g ↦ leaves_off m n _ (Login false) v g.5 refl tt | inr r ↦ elim r [ inl g ↦ leaves_off m n _ (Login false) v g.4 refl tt | inr g ↦ leaves_off m n _ (Login false) v g.3 refl tt ] ])
    step_fits m n (Cast bytes) v h s = inl (stays_as m n _ (Cast bytes) v s.2 (at_doing m (Visits []) v s.0 h) (refl, refl, tt))
    step_fits m n (Begin frame is_read) v h s =
        inl (by_next m n (record m { held = s.0 }) (Begin frame is_read) None (takes_up k m.books frame.token frame.body is_read) v s.5 (takes_up_good m.books frame.token frame.body is_read v (at_doing m (Visits []) v s.1 h)) (refl, refl, tt))
    step_fits m n (Heard bytes) v h s = inl (stays_as m n _ (Heard bytes) v s.2 (at_doing m (Visits []) v s.0.0 h) (refl, refl, tt))
    step_fits m n (Lost bytes) v h s = inl (leaves_off m n _ (Lost bytes) v s.2 refl tt)
    step_fits m n Quiet v h s = inl (stays_as m n _ Quiet v s.1 (at_doing m (Visits []) v s.0.0 h) (refl, refl, tt))
    step_fits m n Finish v h s = inl (leaves_off m n _ Finish v s.1 refl tt)
    step_fits m n Broken v h s = inl (leaves_off m n _ Broken v s.1 refl tt)
    step_fits m n (Long len) v h s = inl (leaves_off m n _ (Long len) v s.3 refl tt)
    step_fits m n Wear v h s = inl (leaves_off m n _ Wear v s.1 refl tt)
    step_fits m n Poor v h s = inl (leaves_off m n _ Poor v s.1 refl tt)
    step_fits m n (On slot (Ran place order r) saved) v h s = inl (elim s [
      | inl t ↦ (let o = ran_good m.books t.task slot order r saved v t.runs (at_doing m (Busy t.back t.task) v t.doing h) in
          let gave : new_by t.task slot order.cmd r.said ≡ taken_at τ A m.doing (On slot (Ran place order r) saved) = ap (λ d. taken_at τ A d (On slot (Ran place order r) saved)) (sym t.doing) in
          record {
            now = o.now;
            fits = subst (λ z. FitM z o.now) (sym t.goes) (fit_next t.back _ _ o.now o.fits);
            goes = elim o.goes [ inl e ↦ inl e | inr g ↦ inr (g.0, g.0 ++ new_by t.task slot order.cmd r.said, g.1, g.2, ap (λ z. g.0 ++ z) gave) ];
            noted = tt;
          })
      | inr t ↦ leaves_off m n _ (On slot (Ran place order r) saved) v t.2.goes refl tt
    ])
    step_fits m n (On slot (Looked place question look) saved) v h s = inl (planned m n (On slot (Looked place question look) saved) s.back s.task m.books (SawSlot slot look) _ v s.doing s.goes (λ i. i) (λ c. c) tt s.asks h (refl, refl, tt))
    step_fits m n (On slot (Denied place) saved) v h s = inl (elim s [
      | inl t ↦ by_next m n m (On slot (Denied place) saved) t.back (denied m.books t.task slot t.order.cmd) v t.goes (denied_good m.books t.task slot t.order.cmd v (at_doing m (Busy t.back t.task) v t.doing h)) (refl, refl, tt)
      | inr u ↦ elim u [
        | inl t ↦ refused m n (On slot (Denied place) saved) t.back t.task v t.doing t.goes h (refl, refl, tt)
        | inr t ↦ leaves_off m n _ (On slot (Denied place) saved) v t.1.goes refl tt
      ]
    ])
    step_fits m n (OnNames (Ran place cmd r)) v h s = inl (planned m n (OnNames (Ran place cmd r)) s.back s.task (saw_names r.place m.books) (ChangedNames r.place r) _ v s.doing s.goes (λ i. i) (λ c. c) tt s.asks h (refl, refl, tt))
    step_fits m n (OnNames (Looked place question names)) v h s = inl (planned m n (OnNames (Looked place question names)) s.back s.task (saw_names place m.books) (SawNames place names) _ v s.doing s.goes (λ i. i) (λ c. c) tt s.asks h (refl, refl, tt))
    step_fits m n (OnNames (Denied place)) v h s = inl (elim s [
      | inl t ↦ refused m n (OnNames (Denied place)) t.back t.task v t.doing t.goes h (refl, refl, tt)
      | inr u ↦ refused m n (OnNames (Denied place)) u.1.back u.1.task v u.1.doing u.1.goes h (refl, refl, tt)
    ])
    step_fits m n (Clock moment) v h s = inl (planned m n (Clock moment) s.back s.task m.books (Clocked moment) _ v s.doing s.goes (λ i. i) (λ c. c) tt s.asks h (refl, refl, tt))
    step_fits m n (Dice bytes) v h s = inl (planned m n (Dice bytes) s.back s.task m.books (Rolled bytes) _ v s.doing s.goes (λ i. i) (λ c. c) tt s.asks h (refl, refl, tt))
    step_fits m n Come v h s =
        let f = at_doing m (Busy s.back (Planning s.token s.plan s.noreply s.count s.found s.arms)) v s.doing h in
        elim (comes_good m.books s.token (batch_size k s.plan) s.found s.arms s.to v f.1 (λ y. (f.2 y).0)) [
          | inl r ↦ inl (by_next m n m Come s.back _ v s.goes r (refl, refl, tt))
          | inr o ↦ (let y : nat_eq s.token τ ≡ true = own_is s.token s.to o in
              inr (refl, (f.2 y).0, record { comes = s; own = y; feed = o; course = f.0; none = subst (λ z. In m.books z) (f.2 y).0 f.1; alone = (f.2 y).1 }))
        ]
      where
        own_is : (t : ℕ) (to : Answered) → IsOwn t to → nat_eq t τ ≡ true
        own_is t (Feed arms notes items) o = o
        own_is t other o = absurd o
    step_fits m n (Say t a true) v h s =
        let f = at_doing m (Busy s.back (Telling t a s.kept s.lose s.after)) v s.doing h in
        inl (record {
          now = f.rest;
          fits = subst (λ z. FitM z f.rest) (sym s.goes) (fit_next s.back _ _ f.rest (told_good t s.kept s.after f.rest f.here));
          goes = by_rest f.rest v f.none f.joins;
          noted = λ y. notes_of f.rest a (f.noted y);
        })
      where
        by_rest : (rest v : V) → (v ≡ None → rest ≡ None) → tells t a ++ list_of rest ≡ list_of v → (rest ≡ None) ⊎ ((p : List Shown) × (q : List Shown) × (v ≡ Some p) × (rest ≡ Some q) × (tells t a ++ q ≡ p ++ []))
        by_rest None v none j = inl refl
        by_rest (Some r) None none j = absurd (let z : Some r ≡ None = none refl in cc)
        by_rest (Some r) (Some p) none j = inr (p, r, refl, refl, j ∙ sym (append-nil p))
    step_fits m n (Say t a false) v h s =
        let f = at_doing m (Busy s.back (Telling t a s.kept s.lose s.after)) v s.doing h in
        inl (leaves_off m n _ (Say t a false) v s.goes refl (λ y. notes_of f.rest a (f.noted y)))
    step_fits m n Want v h s = inl (refused m n Want s.back s.task v s.doing s.goes h (refl, refl, tt))

    -- ---- where the session stands
    left_is : (b : Books) (v : V) → In b v → left_of (feed_of τ b.feeds) ≡ list_of v
    left_is b None i = ap left_of i
    left_is b (Some p) i = ap left_of i.2 ∙ i.5

    some_is : (b : Books) (p : List Shown) → In b (Some p) → is_some (feed_of τ b.feeds) ≡ true
    some_is b p i = ap (λ o. is_some o) i.2

    none_is : (b : Books) → In b None → is_some (feed_of τ b.feeds) ≡ false
    none_is b i = ap (λ o. is_some o) i

    abbrev OpenBy : Books → Doing PL → Type 0
    OpenBy b d = IsHere d × ((is_some (feed_of τ b.feeds) || is_some (feed_of τ (keeps b d).feeds)) ≡ true)

    abbrev due_by : Books → Doing PL → List Shown
    due_by b d = saying τ d ++ left_of (feed_of τ (keeps b d).feeds)

    in_books : (b : Books) (p : List Shown) → In b (Some p) → (is_some (feed_of τ b.feeds) || is_some (feed_of τ b.feeds)) ≡ true
    in_books b p i = ap (λ x. x || is_some (feed_of τ b.feeds)) (some_is b p i)

    open_telling : (b kept : Books) (rest : V) (p : List Shown) → In kept rest → (rest ≡ None → In b (Some p)) → (is_some (feed_of τ b.feeds) || is_some (feed_of τ kept.feeds)) ≡ true
    open_telling b kept None p i g = ap (λ x. x || is_some (feed_of τ kept.feeds)) (some_is b p (g refl))
    open_telling b kept (Some r) p i g = later (is_some (feed_of τ b.feeds)) (is_some (feed_of τ kept.feeds)) (some_is kept r i)

    open_by : (b : Books) (d : Doing PL) (p : List Shown) → FitD b d (Some p) → OpenBy b d × (due_by b d ≡ p)
    open_by b Rest p h = ((tt, in_books b p h), left_is b (Some p) h)
    open_by b (Visits left) p h = ((tt, in_books b p h), left_is b (Some p) h)
    open_by b (Busy back (Planning t plan noreply count found arms)) p h = ((tt, in_books b p h.1), left_is b (Some p) h.1)
    open_by b (Busy back (Visiting t arms points)) p h = ((tt, in_books b p h.0), left_is b (Some p) h.0)
    open_by b (Busy back (Telling t a kept lose after)) p h = ((tt, open_telling b kept h.rest p h.here h.gone), ap (λ z. tells t a ++ z) (left_is kept h.rest h.here) ∙ h.joins)
    open_by b (Busy back (Closing t arms firm a)) p h = ((tt, in_books b p h.0), left_is b (Some p) h.0)
    open_by b (Leaving arms end) p h = absurd (let z : Some p ≡ None = h in cc)

    not_books : (b kept : Books) → In b None → In kept None → (is_some (feed_of τ b.feeds) || is_some (feed_of τ kept.feeds)) ≡ true → ⊥
    not_books b kept i j h = true≢false (sym h ∙ (λ z. none_is b i z || none_is kept j z))

    not_open : (b : Books) (d : Doing PL) → FitD b d None → OpenBy b d → ⊥
    not_open b Rest h o = not_books b b h h o.1
    not_open b (Visits left) h o = not_books b b h h o.1
    not_open b (Busy back (Planning t plan noreply count found arms)) h o = not_books b b h.1 h.1 o.1
    not_open b (Busy back (Visiting t arms points)) h o = not_books b b h.0 h.0 o.1
    not_open b (Busy back (Telling t a kept lose after)) h o = let e : h.rest ≡ None = h.none refl in not_books b kept (h.gone e) (subst (λ z. In kept z) e h.here) o.1
    not_open b (Busy back (Closing t arms firm a)) h o = not_books b b h.0 h.0 o.1
    not_open b (Leaving arms end) h o = absurd o.0

    -- a batch is told only while its feed is open
    told_open : (b : Books) (back : Option (List ℕ)) (ns : List ℕ) (xs : List Shown) (s : Option Stamped) (kept : Books) (lose after : Option (List Arm)) (v : V) → FitD b (Busy back (Telling τ (Batch ns xs s) kept lose after)) v → OpenBy b (Busy back (Telling τ (Batch ns xs s) kept lose after))
    told_open b back ns xs s kept lose after v h = (tt, by_rest h.rest h.here (h.noted (eq-eqb τ τ refl)))
      where
        by_rest : (rest : V) → In kept rest → FitsAnswer rest (Batch ns xs s) → (is_some (feed_of τ b.feeds) || is_some (feed_of τ kept.feeds)) ≡ true
        by_rest None i f = absurd f
        by_rest (Some r) i f = later (is_some (feed_of τ b.feeds)) (is_some (feed_of τ kept.feeds)) (some_is kept r i)

-- ---- along a run
module _ {PL : Type 0} (k : Talk PL) (on : PL → Bool → ℕ → List Found → List Arm → Type 0) (well : PlansMind k on) (τ : ℕ) where
  run_more : (a m n : Mach PL) (es : List Event) (e : Event) → Run k a es m → Step k m e n → Run k a (es ++ e ∷ []) n
  run_more a m n [] e r s = (n, subst (λ z. Step k z e n) r s, refl)
  run_more a m n (x ∷ es) e r s = (r.0, r.1, run_more r.0 m n es e r.2 s)

  stays_more : (a m n : Mach PL) (es : List Event) (e : Event) → StaysOpen k τ a es m → Step k m e n → IsOpenAt τ n → StaysOpen k τ a (es ++ e ∷ []) n
  stays_more a m n [] e r s o = (r.1, n, subst (λ z. Step k z e n) r.0 s, (refl, o))
  stays_more a m n (x ∷ es) e r s o = (r.0, r.1, r.2, stays_more r.1 m n es e r.3 s o)

  given_more : (arms : List Arm) (a m n : Mach PL) (es : List Event) (e : Event) (r : StaysOpen k τ a es m) (s : Step k m e n) (o : IsOpenAt τ n) →
      all_given k τ arms a (es ++ e ∷ []) n (stays_more a m n es e r s o) ≡ all_given k τ arms a es m r ++ taken_at τ arms m.doing e
  unfolding stays_more
  given_more arms a m n [] e r s o = append-nil (taken_at τ arms a.doing e) ∙ ap (λ (z : Mach PL). taken_at τ arms z.doing e) (sym r.0)
  given_more arms a m n (x ∷ es) e r s o = ap (λ z. taken_at τ arms a.doing x ++ z) (given_more arms r.1 m n es e r.3 s o) ∙ sym (append_assoc (taken_at τ arms a.doing x) (all_given k τ arms r.1 es m r.3) (taken_at τ arms m.doing e))

  record Shut (m : Mach PL) : Type 0 where
    arms : List Arm
    notes : List ℕ
    apart : are_apart arms ≡ true
    fits : FitM k on τ arms notes well apart m None

  record Live (es : List Event) (m : Mach PL) : Type 0 where
    told : IsTold k τ es m
    p : List Shown
    fits : FitM k on τ told.arms told.notes well told.apart m (Some p)

  record Kept (es : List Event) (m : Mach PL) : Type 0 where
    led : Run k fresh es m
    state : Shut m ⊎ Live es m

  all_said_more : (es : List Event) (e : Event) → all_said τ (es ++ e ∷ []) ≡ all_said τ es ++ said_by τ e
  all_said_more es e = flat_map-append (said_by τ) es (e ∷ []) ∙ ap (λ z. all_said τ es ++ z) (append-nil (said_by τ e))

  -- ---- one more step of an open feed
  live_more : (es : List Event) (m n : Mach PL) (e : Event) (x : Live es m) → Step k m e n → StepTo k on τ x.told.arms x.told.notes well x.told.apart m n e (Some x.p) → Shut n ⊎ Live (es ++ e ∷ []) n
  live_more es m n e x s g = elim g.goes [
    | inl z ↦ inl (record { arms = x.told.arms; notes = x.told.notes; apart = x.told.apart; fits = subst (λ w. FitM k on τ x.told.arms x.told.notes well x.told.apart n w) z g.fits })
    | inr z ↦ (let t = x.told in
        let fits : FitM k on τ t.arms t.notes well x.told.apart n (Some z.1) = subst (λ w. FitM k on τ t.arms t.notes well x.told.apart n w) z.3 g.fits in
        let now = open_by k on τ t.arms t.notes well x.told.apart n.books n.doing z.1 fits in
        let was = open_by k on τ t.arms t.notes well x.told.apart m.books m.doing x.p x.fits in
        let p_is : z.0 ≡ x.p = ap (λ w. list_of k on τ t.arms t.notes w) (sym z.2) in
        let stays : StaysOpen k τ t.next (t.after ++ e ∷ []) n = stays_more t.next m n t.after e t.stays s now.0 in
        inr (record {
          told = record {
            before = t.before;
            after = t.after ++ e ∷ [];
            start = t.start;
            next = t.next;
            events = ap (λ w. w ++ e ∷ []) t.events ∙ append_assoc t.before (Come ∷ t.after) (e ∷ []);
            led = t.led;
            comes = t.comes;
            its = t.its;
            arms = t.arms;
            notes = t.notes;
            items = t.items;
            feed = t.feed;
            apart = t.apart;
            stays = stays;
            said = ap (λ w. w ++ due τ n) (all_said_more t.after e) ∙ append_assoc (all_said τ t.after) (said_by τ e) (due τ n)
                ∙ ap (λ w. all_said τ t.after ++ (said_by τ e ++ w)) now.1
                ∙ ap (λ w. all_said τ t.after ++ w) (z.4 ∙ ap (λ w. w ++ taken_at τ t.arms m.doing e) (p_is ∙ sym was.1))
                ∙ sym (append_assoc (all_said τ t.after) (due τ m) (taken_at τ t.arms m.doing e))
                ∙ ap (λ w. w ++ taken_at τ t.arms m.doing e) t.said
                ∙ append_assoc t.items (all_given k τ t.arms t.next t.after m t.stays) (taken_at τ t.arms m.doing e)
                ∙ ap (λ w. t.items ++ w) (sym (given_more t.arms t.next m n t.after e t.stays s now.0));
            noted = all_append (HasNotes τ t.notes) t.after (e ∷ []) t.noted (g.noted, tt);
          };
          p = z.1;
          fits = fits;
        }))
  ]

  -- ---- a feed is opened
  opened_now : (es : List Event) (m n : Mach PL) (arms0 : List Arm) (notes0 : List ℕ) (apart0 : are_apart arms0 ≡ true) → Run k fresh es m → (x : Opens k on τ arms0 notes0 well apart0 m n) → (to : Answered) → x.comes.to ≡ to
      → IsOwn k on τ arms0 notes0 well apart0 x.comes.token to → Shut n ⊎ Live (es ++ Come ∷ []) n
  opened_now es m n arms0 notes0 apart0 r x (Feed arms notes items) e o =
      let c = x.comes in
      let apart : are_apart arms ≡ true = (well.whole c.plan c.noreply c.count c.found c.arms arms notes items x.course (c.ends ∙ ap (λ z. Ends z) e)).apart in
      let goes : n ≡ goes_on m c.back (comes_to k m.books c.token (batch_size k c.plan) c.found c.arms (Feed arms notes items)) = c.goes ∙ ap (λ z. goes_on m c.back (comes_to k m.books c.token (batch_size k c.plan) c.found c.arms z)) e in
      let y : Next PL = comes_to k m.books c.token (batch_size k c.plan) c.found c.arms (Feed arms notes items) in
      elim (opens_good k on τ arms notes well apart m.books c.token (batch_size k c.plan) c.found c.arms items x.own x.none x.alone) [
        | inr h ↦ inl (record { arms = arms; notes = notes; apart = apart; fits = subst (λ z. FitM k on τ arms notes well apart z None) (sym goes) (fit_next k on τ arms notes well apart c.back y.books y.task None h) })
        | inl h ↦ (let fits : FitM k on τ arms notes well apart n (Some items) = subst (λ z. FitM k on τ arms notes well apart z (Some items)) (sym goes) (fit_next k on τ arms notes well apart c.back y.books y.task (Some items) h) in
            let now = open_by k on τ arms notes well apart n.books n.doing items fits in
            inr (record {
              told = record {
                before = es;
                after = [];
                start = m;
                next = n;
                events = refl;
                led = r;
                comes = c;
                its = eqb-true c.token τ x.own;
                arms = arms;
                notes = notes;
                items = items;
                feed = e;
                apart = apart;
                stays = (refl, now.0);
                said = now.1 ∙ sym (append-nil items);
                noted = tt;
              };
              p = items;
              fits = fits;
            }))
      ]
  opened_now es m n arms0 notes0 apart0 r x Unsent e o = absurd o
  opened_now es m n arms0 notes0 apart0 r x (One v) e o = absurd o
  opened_now es m n arms0 notes0 apart0 r x (Stream vs) e o = absurd o
  opened_now es m n arms0 notes0 apart0 r x (Fault error text) e o = absurd o
  opened_now es m n arms0 notes0 apart0 r x Wanting e o = absurd o

  step_kept : (es : List Event) (m n : Mach PL) (e : Event) → Step k m e n → Kept es m → Kept (es ++ e ∷ []) n
  step_kept es m n e s x = record {
    led = run_more fresh m n es e x.led s;
    state = elim x.state [
      | inl d ↦ elim (step_fits k on τ d.arms d.notes well d.apart m n e None d.fits s) [
        | inl g ↦ elim g.goes [
          | inl z ↦ inl (record { arms = d.arms; notes = d.notes; apart = d.apart; fits = subst (λ w. FitM k on τ d.arms d.notes well d.apart n w) z g.fits })
          | inr z ↦ absurd (let w : None ≡ Some z.0 = z.2 in cc)
        ]
        | inr g ↦ subst (λ w. Shut n ⊎ Live (es ++ w ∷ []) n) (sym g.0) (opened_now es m n d.arms d.notes d.apart x.led g.2 g.2.comes.to refl g.2.feed)
      ]
      | inr l ↦ elim (step_fits k on τ l.told.arms l.told.notes well l.told.apart m n e (Some l.p) l.fits s) [
        | inl g ↦ live_more es m n e l s g
        | inr g ↦ absurd (let w : Some l.p ≡ None = g.1 in cc)
      ]
    ];
  }

  run_kept : (es more : List Event) (m n : Mach PL) → Run k m more n → Kept es m → Kept (es ++ more) n
  run_kept es [] m n r x = subst (λ z. Kept z n) (sym (append-nil es)) (subst (Kept es) (sym r) x)
  run_kept es (e ∷ more) m n r x = subst (λ z. Kept z n) (append_assoc es (e ∷ []) more) (run_kept (es ++ e ∷ []) more r.0 n r.2 (step_kept es m r.0 e r.1 x))

  kept : (es : List Event) (m : Mach PL) → Run k fresh es m → Kept es m
  kept es m r = run_kept [] es fresh m r (record { led = refl; state = inl (record { arms = []; notes = []; apart = refl; fits = refl }) })

  is_told : (es : List Event) (m : Mach PL) → Run k fresh es m → IsOpenAt τ m → IsTold k τ es m
  is_told es m r o = elim (kept es m r).state [
    | inl d ↦ absurd (not_open k on τ d.arms d.notes well d.apart m.books m.doing d.fits o)
    | inr l ↦ l.told
  ]

  of_feed : (es : List Event) (m n : Mach PL) → Run k fresh es m → (ns : List ℕ) (xs : List Shown) (s : Option Stamped) (whole : Bool) → Step k m (Say τ (Batch ns xs s) whole) n → IsOpenAt τ m
  of_feed es m n r ns xs s whole t = subst (λ z. OpenBy k on τ [] [] well refl m.books z) (sym t.doing) (elim (kept es m r).state [
    | inl d ↦ told_open k on τ d.arms d.notes well d.apart m.books t.back ns xs s t.kept t.lose t.after None (at_doing k on τ d.arms d.notes well d.apart m _ None t.doing d.fits)
    | inr l ↦ told_open k on τ l.told.arms l.told.notes well l.told.apart m.books t.back ns xs s t.kept t.lose t.after (Some l.p) (at_doing k on τ l.told.arms l.told.notes well l.told.apart m _ (Some l.p) t.doing l.fits)
  ])

  -- a token with an open feed has no cursor
  pub alone : (es : List Event) (m : Mach PL) → Run k fresh es m → (left : List ℕ) → m.doing ≡ Visits left → is_some (feed_of τ m.books.feeds) ≡ true → is_some (cursor_of τ m.books.cursors) ≡ false
  alone es m r left e h = elim (kept es m r).state [
    | inl d ↦ (let i : feed_of τ m.books.feeds ≡ None = at_doing k on τ d.arms d.notes well d.apart m (Visits left) None e d.fits in absurd (true≢false (sym h ∙ ap (λ z. is_some z) i)))
    | inr l ↦ (at_doing k on τ l.told.arms l.told.notes well l.told.apart m (Visits left) (Some l.p) e l.fits).0
  ]

  -- a batch is full
  is_full : (es : List Event) (m : Mach PL) → Run k fresh es m → (back : Option (List ℕ)) (ns : List ℕ) (xs : List Shown) (s : Option Stamped) (kept2 : Books) (lose after : Option (List Arm)) → m.doing ≡ Busy back (Telling τ (Batch ns xs s) kept2 lose after)
      → (f : Open) → feed_of τ kept2.feeds ≡ Some f → (f.left ≡ []) ⊎ (f.batch ≤ length xs)
  is_full es m r back ns xs s kept2 lose after d f e = elim (kept es m r).state [
    | inl x ↦ (at_doing k on τ x.arms x.notes well x.apart m (Busy back (Telling τ (Batch ns xs s) kept2 lose after)) None d x.fits).full (eq-eqb τ τ refl) f e
    | inr x ↦ (at_doing k on τ x.told.arms x.told.notes well x.told.apart m (Busy back (Telling τ (Batch ns xs s) kept2 lose after)) (Some x.p) d x.fits).full (eq-eqb τ τ refl) f e
  ]

  -- ---- a Take
  course_of : (es : List Event) (m : Mach PL) → Run k fresh es m → (back : Option (List ℕ)) (t : ℕ) (plan : PL) (noreply : Bool) (count : ℕ) (found : List Found) (arms : List Arm) → m.doing ≡ Busy back (Planning t plan noreply count found arms) → on plan noreply count found arms
  course_of es m r back t plan noreply count found arms e = elim (kept es m r).state [
    | inl d ↦ (at_doing k on τ d.arms d.notes well d.apart m (Busy back (Planning t plan noreply count found arms)) None e d.fits).0
    | inr l ↦ (at_doing k on τ l.told.arms l.told.notes well l.told.apart m (Busy back (Planning t plan noreply count found arms)) (Some l.p) e l.fits).0
  ]

  asked_of : (es : List Event) (m : Mach PL) → Run k fresh es m → (back : Option (List ℕ)) (arm : Arm) (arms : List Arm) (points : List Point) (f : Open) → m.doing ≡ Busy back (Visiting τ (arm ∷ arms) points) → feed_of τ m.books.feeds ≡ Some f → (t : IsTold k τ es m) × (pre : List Arm) × (t.arms ≡ pre ++ arm ∷ arms)
  asked_of es m r back arm arms points f e o = elim (kept es m r).state [
    | inl d ↦ (let i : feed_of τ m.books.feeds ≡ None = (at_doing k on τ d.arms d.notes well d.apart m (Busy back (Visiting τ (arm ∷ arms) points)) None e d.fits).0 in absurd (let z : Some f ≡ None = sym o ∙ i in cc))
    | inr l ↦ elim ((at_doing k on τ l.told.arms l.told.notes well l.told.apart m (Busy back (Visiting τ (arm ∷ arms) points)) (Some l.p) e l.fits).1 (eq-eqb τ τ refl)) [
      | inl z ↦ absurd (let w : Some l.p ≡ None = z in cc)
      | inr z ↦ (l.told, z.1, z.2)
    ]
  ]

-- ---- nothing is said or given
none_printed : (n : ℕ) (arm : Arm) (s : Said Summary Plain) → IsNothing s ⊎ IsBare s → printed n arm s ≡ []
none_printed n arm (said_as.Batch skipped last items) (inl h) = absurd h
none_printed n arm (said_as.Batch skipped last items) (inr h) = λ i. skipped_item n arm (h.0 i) last ++ change_items n arm (h.1 i)
none_printed n arm other h = refl

none_from : (n : ℕ) (arms : List Arm) (slot feed : ℕ) (s : Said Summary Plain) → IsNothing s ⊎ IsBare s → printed_from n arms slot feed s ≡ []
none_from n [] slot feed s h = refl
none_from n (arm ∷ arms) slot feed s h = split (nat_eq arm.slot slot && nat_eq arm.feed feed) (λ b. cond b (printed n arm s) (printed_from (suc n) arms slot feed s) ≡ []) (λ _. none_printed n arm s h) (λ _. none_from (suc n) arms slot feed s h)

module _ {PL : Type 0} (k : Talk PL) (on : PL → Bool → ℕ → List Found → List Arm → Type 0) (well : PlansMind k on) (τ : ℕ) (A : List Arm) (N : List ℕ) (apart : are_apart A ≡ true) where
  abbrev IsCome : Event → Bool
  IsCome Come = true
  IsCome other = false

  record Quiets (e : Event) : Type 0 where
    says : said_by τ e ≡ []
    gives : (d : Doing PL) → taken_at τ A d e ≡ []
    other : IsCome e ≡ false

  found_quiet : (max : ℕ) (arms : List Arm) (es : List Event) → FoundNothing max arms es → AllByRecursion Quiets es
  found_quiet max [] es h = subst (AllByRecursion Quiets) (sym h) tt
  found_quiet max (arm ∷ arms) es h =
      let place : ℕ = h.0 in
      let reply : Told = h.1 in
      let none : IsNothing reply.said ⊎ IsBare reply.said = elim h.5 [ inl a ↦ inl a.0 | inr a ↦ inr a.0 ] in
      let gives : (d : Doing PL) → taken_at τ A d (On arm.slot (Ran place (take_order arm.feed max) reply) h.2) ≡ [] =
      λ d. split (is_asking τ d) (λ b. cond b (printed_from 0 A arm.slot arm.feed reply.said) [] ≡ []) (λ _. none_from 0 A arm.slot arm.feed reply.said none) (λ _. refl) in
      subst (AllByRecursion Quiets) (sym h.4)
      (record { says = refl; gives = gives; other = refl }, elim h.5 [ inl a ↦ found_quiet max arms h.3 a.1 | inr a ↦ subst (AllByRecursion Quiets) (sym a.1) tt ])

  -- what is still to be said stays nothing
  abbrev Done : Mach PL → Type 0
  Done m = FitM k on τ A N well apart m None ⊎ FitM k on τ A N well apart m (Some [])

  one_more : (m n : Mach PL) (e : Event) → Quiets e → Step k m e n → Done m → Done n
  one_more m n e q s (inl h) = elim (step_fits k on τ A N well apart m n e None h s) [
    | inl g ↦ elim g.goes [ inl z ↦ inl (subst (λ w. FitM k on τ A N well apart n w) z g.fits) | inr z ↦ absurd (let w : None ≡ Some z.0 = z.2 in cc) ]
    | inr g ↦ absurd (true≢false (sym (ap IsCome g.0) ∙ q.other))
  ]
  one_more m n e q s (inr h) = elim (step_fits k on τ A N well apart m n e (Some []) h s) [
    | inl g ↦ elim g.goes [
      | inl z ↦ inl (subst (λ w. FitM k on τ A N well apart n w) z g.fits)
      | inr z ↦ (let p : z.0 ≡ [] = ap (λ w. list_of k on τ A N w) (sym z.2) in
          let now : z.1 ≡ [] = ap (λ w. w ++ z.1) (sym q.says) ∙ z.4 ∙ (λ i. p i ++ q.gives m.doing i) in
          inr (subst (λ w. FitM k on τ A N well apart n w) (z.3 ∙ ap (λ w. Some w) now) g.fits))
    ]
    | inr g ↦ absurd (true≢false (sym (ap IsCome g.0) ∙ q.other))
  ]

  all_done : (m n : Mach PL) (es : List Event) → AllByRecursion Quiets es → Run k m es n → Done m → Done n
  all_done m n [] q r d = subst Done (sym r) d
  all_done m n (e ∷ es) q r d = all_done r.0 n es q.1 r.2 (one_more m r.0 e q.0 r.1 d)

  -- where a CONTINUE is taken up, its feed is found in the books
  taken_up : (m n : Mach PL) (e : Event) → IsVisited k τ m e → Step k m e n → (left : List ℕ) × (m.doing ≡ Visits left) × Quiets e
  taken_up m n Visit t s = (τ ∷ t.0, t.1, record { says = refl; gives = λ d. refl; other = refl })
  taken_up m n (Begin frame true) t s = ([], s.1, record { says = refl; gives = λ d. refl; other = refl })
  taken_up m n (Begin frame false) t s = absurd t
  taken_up m n other t s = absurd t

  nothing_due : (m start : Mach PL) (first : Event) (takes : List Event) (f : Open) (v : Option (List Shown)) → FitM k on τ A N well apart start v → IsVisited k τ start first → Run k start (first ∷ takes) m
      → feed_of τ start.books.feeds ≡ Some f → f.left ≡ [] → FoundNothing f.batch f.arms takes → IsOpenAt τ m → due τ m ≡ []
  nothing_due m start first takes f v fits t r its left found here =
      let up = taken_up start r.0 first t r.1 in
      let w = own_of k on τ A N start.books f v its (at_doing k on τ A N well apart start (Visits up.0) v up.1 fits) in
      let none : v ≡ Some [] = w.1 ∙ ap (λ z. Some z) (sym w.2.left ∙ left) in
      elim (all_done start m (first ∷ takes) (up.2, found_quiet f.batch f.arms takes found) r (inr (subst (λ z. FitM k on τ A N well apart start z) none fits))) [
        | inl h ↦ absurd (not_open k on τ A N well apart m.books m.doing h here)
        | inr h ↦ (open_by k on τ A N well apart m.books m.doing [] h).1
      ]

module _ {PL : Type 0} (k : Talk PL) (on : PL → Bool → ℕ → List Found → List Arm → Type 0) (well : PlansMind k on) where
  -- where it comes to wait
  said_at_wait : (es : List Event) (m : Mach PL) (token : ℕ) → EndsInVain k token es m → IsOpenAt token m → due token m ≡ []
  said_at_wait es m token e o =
      let a = e.vain in
      let run : Run k e.start (a.first ∷ a.takes) m = subst (λ z. Run k e.start z m) a.events a.run in
      elim (kept k on well token e.before e.start e.led).state [
        | inl d ↦ nothing_due k on well token d.arms d.notes d.apart m e.start a.first a.takes a.feed None d.fits a.begins run a.its a.left a.found o
        | inr l ↦ nothing_due k on well token l.told.arms l.told.notes l.told.apart m e.start a.first a.takes a.feed (Some l.p) l.fits a.begins run a.its a.left a.found o
      ]

  no_items : (u v : List Shown) → u ++ v ≡ [] → v ≡ []
  no_items [] v h = h
  no_items (x ∷ u) v h = absurd (let z : x ∷ (u ++ v) ≡ [] = h in cc)

  -- a feed whose token waits is given nothing
  none_given : (token : ℕ) (arms : List Arm) (es : List Event) (m n : Mach PL) (e : Event) → Run k fresh es m → Step k m e n → has_token token m.books.waiting ≡ true → taken_at token arms m.doing e ≡ []
  none_given token arms es m n (On slot (Ran place order reply) saved) r (inl s) h = by_task s.task s.doing
    where
      given : Bool → List Shown
      given b = cond b (given_by arms slot order.cmd reply.said) []

      not_this : (t : ℕ) (rest : List Arm) (points : List Point) → m.doing ≡ Busy s.back (Visiting t rest points) → given (nat_eq t token) ≡ []
      not_this t rest points d = elim (which (nat_eq t token)) [
        | inl y ↦ absurd (true≢false (sym h ∙ asks_alone k on well token es m r s.back rest points (d ∙ ap (λ z. Busy s.back (Visiting z rest points)) (eqb-true t token y))))
        | inr n ↦ ap given n
      ]

      by_task : (task : Task PL) → m.doing ≡ Busy s.back task → taken_at token arms m.doing (On slot (Ran place order reply) saved) ≡ []
      by_task (Visiting t rest points) d = ap (λ z. taken_at token arms z (On slot (Ran place order reply) saved)) d ∙ not_this t rest points d
      by_task (Planning t plan noreply count found opened) d = ap (λ z. taken_at token arms z (On slot (Ran place order reply) saved)) d
      by_task (Telling t a kept lose after) d = ap (λ z. taken_at token arms z (On slot (Ran place order reply) saved)) d
      by_task (Closing t rest firm a) d = ap (λ z. taken_at token arms z (On slot (Ran place order reply) saved)) d
  none_given token arms es m n (On slot (Ran place order reply) saved) r (inr s) h = ap (λ z. taken_at token arms z (On slot (Ran place order reply) saved)) s.2.doing
  none_given token arms es m n other r s h = refl

  abbrev SaidAll : (token : ℕ) → Mach PL → Type 0
  SaidAll token m = has_token token m.books.waiting ≡ true → IsOpenAt token m → due token m ≡ []

  said_more : (token : ℕ) (es : List Event) (m n : Mach PL) (e : Event) → Run k fresh es m → Step k m e n → SaidAll token m → SaidAll token n
  said_more token es m n e r s was h o = elim (which (has_token token m.books.waiting)) [
    | inr b ↦ said_at_wait (es ++ e ∷ []) n token (starts_to_wait k es m n e r s token b h) o
    | inl b ↦ elim (kept k on well token es m r).state [
      | inl d ↦ elim (step_fits k on token d.arms d.notes well d.apart m n e None d.fits s) [
        | inl g ↦ elim g.goes [
          | inl z ↦ absurd (not_open k on token d.arms d.notes well d.apart n.books n.doing (subst (λ w. FitM k on token d.arms d.notes well d.apart n w) z g.fits) o)
          | inr z ↦ absurd (let w : None ≡ Some z.0 = z.2 in cc)
        ]
        | inr g ↦ (let c = g.2.comes in
            absurd (true≢false (sym b ∙ plans_alone k on well token es m r c.back c.plan c.noreply c.count c.found c.arms (c.doing ∙ ap (λ z. Busy c.back (Planning z c.plan c.noreply c.count c.found c.arms)) (eqb-true c.token token g.2.own)))))
      ]
      | inr l ↦ (let t = l.told in
          let at = open_by k on token t.arms t.notes well t.apart m.books m.doing l.p l.fits in
          let none : l.p ≡ [] = sym at.1 ∙ was b at.0 in
          elim (step_fits k on token t.arms t.notes well t.apart m n e (Some l.p) l.fits s) [
            | inl g ↦ elim g.goes [
              | inl z ↦ absurd (not_open k on token t.arms t.notes well t.apart n.books n.doing (subst (λ w. FitM k on token t.arms t.notes well t.apart n w) z g.fits) o)
              | inr z ↦ (let p : z.0 ≡ [] = ap (λ w. list_of k on token t.arms t.notes w) (sym z.2) ∙ none in
                  let q : z.1 ≡ [] = no_items (said_by token e) z.1 (z.4 ∙ (λ i. p i ++ none_given token t.arms es m n e r s b i)) in
                  (open_by k on token t.arms t.notes well t.apart n.books n.doing z.1 (subst (λ w. FitM k on token t.arms t.notes well t.apart n w) z.3 g.fits)).1 ∙ q)
            ]
            | inr g ↦ absurd (let w : Some l.p ≡ None = g.1 in cc)
          ])
    ]
  ]

  said_run : (token : ℕ) (es more : List Event) (m n : Mach PL) → Run k fresh es m → Run k m more n → SaidAll token m → SaidAll token n
  said_run token es [] m n r t h = subst (SaidAll token) (sym t) h
  said_run token es (e ∷ more) m n r t h = said_run token (es ++ e ∷ []) more t.0 n (run_more k on well token fresh m t.0 es e r t.1) t.2 (said_more token es m t.0 e r t.1 h)

  pub all_is_said : AllIsSaid k
  all_is_said es m r token h o = said_run token [] es fresh m refl r (λ w z. absurd (true≢false (sym w))) h o

  pub takes_are_of_feeds : TakesAreOfFeeds k
  takes_are_of_feeds es m n r slot place order reply saved (inl s) feed max c = by_task s.task s.doing s.runs
    where
      fed_by : Cmd → ℕ
      fed_by (cmds.Take x y) = x
      fed_by other = 0

      no_close : (x : ℕ) → order ≡ close_order x → ⊥
      no_close x e = absurd (let z : cmds.Take feed max ≡ cmds.Unsubscribe x = sym c ∙ ap (λ (w : Order). w.cmd) e in cc)

      by_task : (task : Task PL) → m.doing ≡ Busy s.back task → Runs k m.books task slot order → (token : ℕ) × (is_asking token m.doing ≡ true) × (t : IsTold k token es m) × (has_arm slot feed t.arms ≡ true)
      by_task (Planning t plan noreply count found arms) d e = absurd (subst (Minds arms slot) c (well.runs plan noreply count found arms slot order reply saved (course_of k on well t es m r s.back t plan noreply count found arms d) e).0)
      by_task (Visiting t [] points) d e = absurd e
      by_task (Visiting t (arm ∷ arms) points) d e =
          let x = asked_of k on well t es m r s.back arm arms points e.0 d e.1 in
          let of : feed ≡ arm.feed = ap fed_by (sym c ∙ ap (λ (w : Order). w.cmd) e.3) in
          (t, ap (λ z. is_asking t z) d ∙ eq-eqb t t refl, x.0, (λ i. has_arm (e.2 i) (of i) (x.2 i)) ∙ has_there reply.said arm x.1 arms)
      by_task (Telling t a kept lose after) d e = absurd e
      by_task (Closing t [] firm a) d e = absurd e
      by_task (Closing t (arm ∷ arms) firm a) d e = absurd (no_close arm.feed e.1)
  takes_are_of_feeds es m n r slot place order reply saved (inr s) feed max c = absurd (let z : cmds.Take feed max ≡ cmds.Unsubscribe s.0.feed = sym c ∙ ap (λ (w : Order). w.cmd) s.1 in cc)

  pub feeds_are_told : FeedsAreTold k
  feeds_are_told es m r token o = is_told k on well token es m r o

  pub batches_are_of_feeds : BatchesAreOfFeeds k
  batches_are_of_feeds es m n r token notes xs s whole t = of_feed k on well token es m n r notes xs s whole t

  told_books : (t : ℕ) (kept2 : Books) (after : Option (List Arm)) → (told {PL = PL} t kept2 after).books ≡ kept2
  told_books t kept2 None = refl
  told_books t kept2 (Some []) = refl
  told_books t kept2 (Some (arm ∷ arms)) = refl

  pub batches_are_full : BatchesAreFull k
  batches_are_full es m n r token notes xs s t f e =
      let there : feed_of token t.kept.feeds ≡ Some f = ap (λ (z : Books). feed_of token z.feeds) (sym (ap (λ (z : Mach PL). z.books) t.goes ∙ told_books token t.kept t.after)) ∙ e in
      is_full k on well token es m r t.back notes xs s t.kept t.lose t.after t.doing f there
