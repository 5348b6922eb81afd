-- What a visit of a feed gave.
use Rattle.std.proofs.Common.{◌≡◌, ℕ, ℤ, ◌+◌, ◌-◌, ◌<◌, suc, Bool, true, false, true≢false, not, ◌||◌, List, [], ◌∷◌, ◌++◌, Option, Some, None, length, map, filter, take, drop, get_or, min, cond, refl, sym, ap, subst, ◌∙◌, arith}
use Rattle.std.specs.Prelude.{nat_eq}
use Rattle.std.proofs.lemmas.List.{take-map, drop-map, take_min, drop_min, length-drop, get_or-drop, get_or-map}
use Rattle.std.proofs.lemmas.List.Elements.{All-filter}
use Rattle.reql_outside.specs.Source.{Source}
use Rattle.reql_outside.specs.Tape.{Tape}
use Rattle.reql_datum.specs.Plain.{Plain}
use Rattle.reql_datum.specs.declared.point.Point.{Point}
use Rattle.reql_answer.specs.Body.{Stamped}
use Rattle.reql_feed_spec.specs.Shown.{skip_item}
use Rattle.reql_table_spec.specs.Machine.{State}
use Rattle.reql_session_spec.specs.Requests.{Arm, Shown, Skip, Answer, Failed, Batch, Internal, stamped}
use Rattle.reql_session_spec.specs.Books.{Books, Open, closed, with_left, waits, feed_of}
use Rattle.reql_session_spec.specs.Bodies.{body}
use Rattle.reql_session_spec.specs.Tasks.{Talk, Next, Telling, Visiting, Settled, Drops, at, done, only_tell, may_tell, fitted, close, tell, batch_of, gone, others, is_empty, skipped_item, change_items}
use Rattle.reql_session_spec.specs.declared.end.End.{End}
use Rattle.reql_table_machine_spec.proofs.Tracking.{split}
use Rattle.reql_session_api.specs.Meant.{arm_of, arms_of, no_arm, shown_of}
use Rattle.reql_session_api.specs.World.{AtWork}
use Rattle.reql_session_api.specs.declared.answered.Arm as coded
use Rattle.reql_session_api.specs.declared.answered.Shown as told
use Rattle.reql_desk_moves.specs.Acting.{AtDesk, AreThere}
use Rattle.reql_desk_moves.specs.Steps.{Steps, after_closing}
use Rattle.reql_open_cursors.specs.Kept.{feed_kept}
use Rattle.reql_open_cursors.specs.There as story_there
use Rattle.reql_open_cursors.proofs.There.{there_coded, there_meant}
use Rattle.reql_answer.specs.declared.error.ErrorType.TheVariants as errors
use Rattle.reql_open_cursors.specs.declared.open.Open as shelf_open
use Rattle.reql_session.specs.Batches.{skips, is_none_of, items_of, tells_items}
use Rattle.reql_session.specs.Settling.{working, Settles}
use Rattle.reql_session.proofs.Settled.{settles_done, settles_on, settles_closed, leads_steps, leads_want}
use Rattle.reql_session.proofs.Tokens.{found_is}
use Rattle.reql_session.proofs.Batched.{with_books, tells_lost}

-- the bytes of a batch
pub batch_bytes : (g : shelf_open.Open) (f : Open) (notes bytes : List ℕ) (first xs shown : List told.Shown) (count : ℕ) (s : Option Stamped) → feed_kept g ≡ f → notes ≡ g.notes → first ≡ take count xs → xs ≡ shown →
    bytes ≡ body (Batch notes (map (shown_of f.arms) first) s) → bytes ≡ body (Batch f.notes (map (shown_of f.arms) (take count shown)) s)
batch_bytes g f notes bytes first xs shown count s same n is all e =
    e ∙ ap (λ z. body (Batch z (map (shown_of f.arms) first) s)) (n ∙ ap (λ (z : Open). z.notes) same)
    ∙ ap (λ z. body (Batch f.notes (map (shown_of f.arms) z) s)) (is ∙ ap (take count) all)

-- the first ones of a batch, and the others
take_past : (skipped batch : ℕ) (x : Shown) (xs : List Shown) → take (skips skipped + batch) (cond (nat_eq skipped 0) [] (x ∷ []) ++ xs) ≡ cond (nat_eq skipped 0) [] (x ∷ []) ++ take batch xs
take_past skipped batch x xs =
    let none : 0 + batch ≡ batch = omega arith in
    let one : 1 + batch ≡ suc batch = omega arith in
    split (nat_eq skipped 0) (λ b. take (cond b 0 1 + batch) (cond b [] (x ∷ []) ++ xs) ≡ cond b [] (x ∷ []) ++ take batch xs)
    (λ _. ap (λ n. take n xs) none) (λ _. ap (λ n. take n (x ∷ xs)) one)

drop_past : (skipped batch : ℕ) (x : Shown) (xs : List Shown) → drop (skips skipped + batch) (cond (nat_eq skipped 0) [] (x ∷ []) ++ xs) ≡ drop batch xs
drop_past skipped batch x xs =
    let none : 0 + batch ≡ batch = omega arith in
    let one : 1 + batch ≡ suc batch = omega arith in
    split (nat_eq skipped 0) (λ b. drop (cond b 0 1 + batch) (cond b [] (x ∷ []) ++ xs) ≡ drop batch xs)
    (λ _. ap (λ n. drop n xs) none) (λ _. ap (λ n. drop n (x ∷ xs)) one)

-- the item that tells how many were left out
abbrev pub skip_at : ℕ → Arm → ℕ → ℕ → Shown
skip_at at arm skipped last = record { at = at; arm = arm; sort = Skip; stamp = last; item = skip_item skipped }

-- where an arm stands
place_is : (at : ℕ) (all : List Arm) (arm : Arm) (arms : List Arm) → drop at all ≡ arm ∷ arms → length all - length (arm ∷ arms) ≡ at
place_is at all arm arms e =
    let left : length all - at ≡ length (arm ∷ arms) = sym (length-drop at all) ∙ ap length e in
    let some : length (arm ∷ arms) ≡ suc (length arms) = refl in
    omega (arith, left, some)

pub arm_is : (at : ℕ) (all : List Arm) (arm : Arm) (arms : List Arm) → drop at all ≡ arm ∷ arms → get_or all at no_arm ≡ arm
arm_is at all arm arms e =
    let there : at + 0 ≡ at = omega arith in
    sym (ap (λ n. get_or all n no_arm) there) ∙ sym (get_or-drop at all 0 no_arm) ∙ ap (λ xs. get_or xs 0 no_arm) e

-- the other arms
filter_kept : {X Y : Type 0} (f : X → Y) (p : Y → Bool) (xs : List X) → map f (filter (λ x. p (f x)) xs) ≡ filter p (map f xs)
filter_kept f p [] = refl
filter_kept f p (x ∷ xs) = split (p (f x)) (λ b. map f (cond b (x ∷ filter (λ y. p (f y)) xs) (filter (λ y. p (f y)) xs)) ≡ cond b (f x ∷ filter p (map f xs)) (filter p (map f xs)))
    (λ _. ap (λ ys. f x ∷ ys) (filter_kept f p xs)) (λ _. filter_kept f p xs)

-- whether an arm is another one
abbrev pub is_other_of : ℕ → ℕ → coded.Arm → Bool
is_other_of slot number a = not (nat_eq a.slot slot) || not (nat_eq a.feed number)

pub others_kept : (arm : Arm) (slot number : ℕ) (xs new : List coded.Arm) → arm.slot ≡ slot → arm.feed ≡ number → new ≡ filter (is_other_of slot number) xs → arms_of new ≡ others arm (arms_of xs)
others_kept arm slot number xs new s n is =
    ap arms_of is ∙ ap (λ z. arms_of (filter (is_other_of z number) xs)) (sym s) ∙ ap (λ z. arms_of (filter (is_other_of arm.slot z) xs)) (sym n)
    ∙ filter_kept arm_of (λ (a : Arm). not (nat_eq a.slot arm.slot) || not (nat_eq a.feed arm.feed)) xs

pub others_there : (n slot number : ℕ) (xs new : List coded.Arm) → ((arm : Arm) → arm.slot ≡ slot → arm.feed ≡ number → arms_of new ≡ others arm (arms_of xs)) → AreThere n xs → AreThere n new
others_there n slot number xs new kept all =
    let arm : Arm = record { slot = slot; feed = number; dropped = [] } in
    there_coded n new (subst (story_there.AreThere n) (sym (kept arm refl refl)) (All-filter (λ (a : Arm). not (nat_eq a.slot slot) || not (nat_eq a.feed number)) (λ (a : Arm). a.slot < n) (arms_of xs) (there_meant n xs all)))

-- the arm at a place
pub some_at : (at : ℕ) (xs : List coded.Arm) (x : coded.Arm) (arm : Arm) (rest : List Arm) → at < length xs → x ≡ get_or xs at x → drop at (arms_of xs) ≡ arm ∷ rest → arm_of x ≡ arm
some_at at xs x arm rest lt is e = ap arm_of is ∙ sym (get_or-map arm_of xs at x no_arm lt) ∙ arm_is at (arms_of xs) arm rest e

pub has_more : (xs : List Arm) (has : Bool) → has ≡ not (is_none_of xs) → has ≡ true → is_none_of xs ≡ false
has_more [] has e y = absurd (true≢false (sym y ∙ e))
has_more (x ∷ xs) has e y = refl

module _ {PL : Type 0} (k : Talk PL) where
  -- ---- a batch
  pub items_lost : (t u : Tape) (w v : AtWork) (b : Books) (token : ℕ) (f : Open) (batch : ℕ) (points : List Point) (skip changes : List Shown) (end : Option End) →
      Settles k t u w v (close (closed token b) token f.arms Settled (Some Internal)) end → Settles k t u w v (tells_items k b token f batch points skip changes) end
  items_lost t u w v b token f batch points skip changes end s =
      tells_lost k t u w v b (with_left token (drop batch changes) b) token (Batch f.notes (skip ++ take batch changes) (Some (stamped b.names points))) f.arms end s

  pub items_told : (t u : Tape) (w v : AtWork) (b : Books) (token : ℕ) (f : Open) (batch skipped all count : ℕ) (seen points : List Point) (shown : List told.Shown) (x : Shown) (changes : List Shown) (end : Option End) →
      map (shown_of f.arms) shown ≡ cond (nat_eq skipped 0) [] (x ∷ []) ++ changes → count ≡ min (skips skipped + batch) all → all ≡ length shown → seen ≡ points →
      Settles k t u w v (tell k b token (Batch f.notes (map (shown_of f.arms) (take count shown)) (Some (stamped b.names seen))) (with_left token (map (shown_of f.arms) (drop count shown)) b) f.arms (Some f.arms)) end →
      Settles k t u w v (tells_items k b token f batch points (cond (nat_eq skipped 0) [] (x ∷ [])) changes) end
  items_told t u w v b token f batch skipped all count seen points shown x changes end is so long same s =
      let n = skips skipped + batch in
      let meant : told.Shown → Shown = shown_of f.arms in
      let counted : count ≡ min (skips skipped + batch) (length shown) = so ∙ ap (min (skips skipped + batch)) long in
      let first : map (shown_of f.arms) (take count shown) ≡ cond (nat_eq skipped 0) [] (x ∷ []) ++ take batch changes =
      ap (λ c. map meant (take c shown)) counted ∙ ap (map meant) (take_min (skips skipped + batch) shown) ∙ sym (take-map meant (skips skipped + batch) shown)
      ∙ ap (take (skips skipped + batch)) is ∙ take_past skipped batch x changes in
      let rest : map (shown_of f.arms) (drop count shown) ≡ drop batch changes =
      ap (λ c. map meant (drop c shown)) counted ∙ ap (map meant) (drop_min (skips skipped + batch) shown) ∙ sym (drop-map meant (skips skipped + batch) shown)
      ∙ ap (drop (skips skipped + batch)) is ∙ drop_past skipped batch x changes in
      subst (λ z. Settles k t u w v (tell k b token (Batch f.notes (cond (nat_eq skipped 0) [] (x ∷ []) ++ take batch changes) (Some (stamped b.names z))) (with_left token (drop batch changes) b) f.arms (Some f.arms)) end) same
      (subst (λ z. Settles k t u w v (tell k b token (Batch f.notes (cond (nat_eq skipped 0) [] (x ∷ []) ++ take batch changes) (Some (stamped b.names seen))) (with_left token z b) f.arms (Some f.arms)) end) rest
      (subst (λ z. Settles k t u w v (tell k b token (Batch f.notes z (Some (stamped b.names seen))) (with_left token (map (shown_of f.arms) (drop count shown)) b) f.arms (Some f.arms)) end) first s))

  -- nothing is shown
  pub batch_none : (t : Tape) (w v : AtWork) (b : Books) (token : ℕ) (f : Open) (at : ℕ) (arm : Arm) (points : List Point) (skipped last : ℕ) (items : List (ℕ × Plain)) (none : Bool) →
      f.token ≡ token → none ≡ is_empty (items_of at arm skipped last items) → none ≡ true → v ≡ with_books w (waits token b) → Settles k t t w v (batch_of k b f at arm points skipped last items) None
  batch_none t w v b token f at arm points skipped last items none e is y o =
      subst (λ z. Settles k t t w v (cond z (done (waits f.token b)) (tells_items k b f.token f f.batch points (skipped_item at arm skipped last) (change_items at arm items))) None) (sym (sym is ∙ y))
      (subst (λ z. Settles k t t w v (done (waits z b)) None) (sym e)
      (subst (λ z. Settles k t t w z (done (waits token b)) None) (sym o) (settles_done k t (with_books w (waits token b)) (waits token b) refl)))

  -- something is shown, of the arm at a place
  pub batch_some : (t u : Tape) (w v : AtWork) (b : Books) (token : ℕ) (f : Open) (batch at : ℕ) (arm : Arm) (arms : List Arm) (points : List Point) (skipped last : ℕ) (items : List (ℕ × Plain)) (none : Bool) (end : Option End) →
      f.token ≡ token → f.batch ≡ batch → drop at f.arms ≡ arm ∷ arms → none ≡ is_empty (items_of (length f.arms - length (arm ∷ arms)) arm skipped last items) → none ≡ false →
      Settles k t u w v (tells_items k b token f batch points (skipped_item at (get_or f.arms at no_arm) skipped last) (change_items at (get_or f.arms at no_arm) items)) end →
      Settles k t u w v (batch_of k b f (length f.arms - length (arm ∷ arms)) arm points skipped last items) end
  batch_some t u w v b token f batch at arm arms points skipped last items none end e n d is y s =
      let here = length f.arms - length (arm ∷ arms) in
      subst (λ z. Settles k t u w v (cond z (done (waits f.token b)) (tells_items k b f.token f f.batch points (skipped_item here arm skipped last) (change_items here arm items))) end) (sym (sym is ∙ y))
      (subst (λ z. Settles k t u w v (tells_items k b z f f.batch points (skipped_item here arm skipped last) (change_items here arm items)) end) (sym e)
      (subst (λ z. Settles k t u w v (tells_items k b token f z points (skipped_item here arm skipped last) (change_items here arm items)) end) (sym n)
      (subst (λ z. Settles k t u w v (tells_items k b token f batch points (skipped_item z arm skipped last) (change_items z arm items)) end) (sym (place_is at f.arms arm arms d))
      (subst (λ z. Settles k t u w v (tells_items k b token f batch points (skipped_item at z skipped last) (change_items at z items)) end) (arm_is at f.arms arm arms d) s))))

  -- ---- the table of an arm was dropped
  pub gone_others : (t u : Tape) (w v : AtWork) (b : Books) (token : ℕ) (f : Open) (arm : Arm) (points : List Point) (xs : List Arm) (has : Bool) (end : Option End) → f.token ≡ token → has ≡ not (is_none_of xs) → has ≡ true →
      Settles k t u w v (close b token xs Drops (Some (fitted k (Failed errors.OpFailed arm.dropped (Some (stamped b.names points)))))) end → Settles k t u w v (gone k b f arm points xs) end
  gone_others t u w v b token f arm points [] has end e is y s = absurd (true≢false (sym y ∙ is))
  gone_others t u w v b token f arm points (x ∷ xs) has end e is y s = subst (λ z. Settles k t u w v (close b z (x ∷ xs) Drops (Some (fitted k (Failed errors.OpFailed arm.dropped (Some (stamped b.names points)))))) end) (sym e) s

  pub gone_alone : (t u : Tape) (w v : AtWork) (b : Books) (token : ℕ) (f : Open) (arm : Arm) (points : List Point) (xs : List Arm) (has : Bool) (end : Option End) → f.token ≡ token → has ≡ not (is_none_of xs) → has ≡ false →
      Settles k t u w v (at b (Telling token (fitted k (Failed errors.OpFailed arm.dropped (Some (stamped b.names points)))) (closed token b) None None)) end → Settles k t u w v (gone k b f arm points xs) end
  gone_alone t u w v b token f arm points (x ∷ xs) has end e is y s = absurd (true≢false (sym is ∙ y))
  gone_alone t u w v b token f arm points [] has end e is y s = subst (λ z. Settles k t u w v (at b (Telling z (fitted k (Failed errors.OpFailed arm.dropped (Some (stamped b.names points)))) (closed z b) None None)) end) (sym e) s

  some_closed : (some : State) (p q : AtDesk) (b : Books) (token : ℕ) (a : Answer) (xs : List Arm) → is_none_of xs ≡ false → Steps k some p q (close b token xs Drops (Some a)) (may_tell (after_closing b token xs) token (Some a)) →
      Steps k some p q (close b token xs Drops (Some a)) (only_tell (closed token b) token a)
  some_closed some p q b token a [] e s = absurd (true≢false e)
  some_closed some p q b token a (x ∷ xs) e s = s

  -- the other arms were closed
  pub others_closed : (some : State) (t u : Tape) (p q : AtDesk) (b new : Books) (clock : Source ℤ) (dice : Source (List ℕ)) (token : ℕ) (g : shelf_open.Open) (f : Open) (left shut : List coded.Arm) (arm : Arm) (a : Answer) (end : Option End) →
      new ≡ closed token b → Some (feed_kept g) ≡ feed_of token b.feeds → feed_of token b.feeds ≡ Some f → arms_of left ≡ others arm (arms_of g.arms.items) → shut ≡ left → is_none_of (others arm f.arms) ≡ false →
      Steps k some p q (close b token (arms_of shut) Drops (Some a)) (may_tell (after_closing b token (arms_of shut)) token (Some a)) → ((w : AtWork) → Settles k t u w w (only_tell w.books token a) end) →
      Settles k t u (working some p b clock dice) (working some q new clock dice) (close b token (others arm f.arms) Drops (Some a)) end
  others_closed some t u p q b new clock dice token g f left shut arm a end is there found kept same more s tells =
      let all : arms_of shut ≡ others arm f.arms = ap arms_of same ∙ kept ∙ ap (λ (z : Open). others arm z.arms) (found_is token b.feeds g f there found) in
      settles_closed k some t u p q b new clock dice (close b token (others arm f.arms) Drops (Some a)) (λ z. only_tell z token a) end
      (subst (λ z. Steps k some p q (close b token (others arm f.arms) Drops (Some a)) (only_tell z token a)) (sym is)
      (some_closed some p q b token a (others arm f.arms) more (subst (λ z. Steps k some p q (close b token z Drops (Some a)) (may_tell (after_closing b token z) token (Some a))) all s)))
      tells

  -- ---- what a visit came to
  pub visit_waits : (some : State) (t : Tape) (p q : AtDesk) (b new : Books) (clock : Source ℤ) (dice : Source (List ℕ)) (token : ℕ) (f : Open) → f.token ≡ token → new ≡ waits token b →
      Steps k some p q (at b (Visiting f.token f.arms [])) (done (waits f.token b)) → Settles k t t (working some p b clock dice) (working some q new clock dice) (at b (Visiting f.token f.arms [])) None
  visit_waits some t p q b new clock dice token f e is s =
      let x : Next PL = at b (Visiting f.token f.arms []) in
      settles_on k t t t (working some p b clock dice) (working some q new clock dice) (working some q new clock dice) x (done new) None
      (leads_steps k some t p q b new clock dice x (done new) (subst (λ z. Steps k some p q x (done z)) (ap (λ z. waits z b) e ∙ sym is) s)) (settles_done k t (working some q new clock dice) new refl)

  pub visit_on : (some : State) (t u : Tape) (p q r : AtDesk) (b new : Books) (clock : Source ℤ) (dice : Source (List ℕ)) (f : Open) (y : Next PL) (end : Option End) → Steps k some p q (at b (Visiting f.token f.arms [])) y →
      Settles k t u (working some q b clock dice) (working some r new clock dice) y end → Settles k t u (working some p b clock dice) (working some r new clock dice) (at b (Visiting f.token f.arms [])) end
  visit_on some t u p q r b new clock dice f y end s more =
      settles_on k t t u (working some p b clock dice) (working some q b clock dice) (working some r new clock dice) (at b (Visiting f.token f.arms [])) y end
      (leads_steps k some t p q b b clock dice (at b (Visiting f.token f.arms [])) y s) more

  pub visit_denied : (some : State) (t u : Tape) (p q : AtDesk) (b : Books) (clock : Source ℤ) (dice : Source (List ℕ)) (token : ℕ) (f : Open) (end : Option End) → f.token ≡ token → Steps k some p q (at b (Visiting f.token f.arms [])) (only_tell b f.token Internal) →
      Settles k t u (working some q b clock dice) (working some q b clock dice) (only_tell b token Internal) end → Settles k t u (working some p b clock dice) (working some q b clock dice) (at b (Visiting f.token f.arms [])) end
  visit_denied some t u p q b clock dice token f end e s more =
      visit_on some t u p q q b b clock dice f (only_tell b f.token Internal) end s (subst (λ z. Settles k t u (working some q b clock dice) (working some q b clock dice) (only_tell b z Internal) end) (sym e) more)

  -- it is not made, for want of memory
  pub visit_wanted : (some : State) (t u : Tape) (p : AtDesk) (b new : Books) (clock : Source ℤ) (dice : Source (List ℕ)) (token : ℕ) (f : Open) (end : Option End) → f.token ≡ token → new ≡ b →
      Settles k t u (working some p new clock dice) (working some p new clock dice) (only_tell new token Internal) end → Settles k t u (working some p b clock dice) (working some p new clock dice) (at b (Visiting f.token f.arms [])) end
  visit_wanted some t u p b new clock dice token f end e is more =
      settles_on k t t u (working some p b clock dice) (working some p b clock dice) (working some p new clock dice) (at b (Visiting f.token f.arms [])) (only_tell b f.token Internal) end
      (leads_want k t (working some p b clock dice) b (Visiting f.token f.arms []))
      (subst (λ z. Settles k t u (working some p b clock dice) (working some p new clock dice) (only_tell b z Internal) end) (sym e)
      (subst (λ z. Settles k t u (working some p b clock dice) (working some p new clock dice) (only_tell z token Internal) end) is more))
