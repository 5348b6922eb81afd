-- The rolls of a login come before those of requests.
use Rattle.std.proofs.Common.{◌≡◌, ◌⊎◌, ℕ, Bool, true, false, List, [], ◌∷◌, ◌++◌, Option, None, Some, refl, sym, ap, subst, ◌∙◌, append_assoc, append-nil, inl, inr}
use Rattle.reql_shared.specs.Acts.{Ran, Looked, Denied}
use Rattle.reql_session_spec.specs.Books.{Books, no_books}
use Rattle.reql_session_spec.specs.Tasks.{Talk, Task}
use Rattle.reql_session_spec.specs.Logins.{Stage, Waiting, At, Admitted, InLogin}
use Rattle.reql_session_spec.specs.Session.{Event, Turn, Visit, Greeted, Login, Cast, Begin, Heard, Lost, Quiet, Finish, Broken, Long, Wear, Poor, On, OnNames, Dice, Clock, Come, Say, Want, Doing, Rest, Visits, Busy, Leaving, Mach, Run, Step, LeavesArm, fresh, tells, rolled, rolled_of, casts, cast_of, planned, planned_of}
use Rattle.reql_session_spec.specs.Laws.{LoginRollsFirst}
use Rattle.reql_session_spec.proofs.Orders.{waits_not_over, at_not_over}

module _ {PL : Type 0} where
  -- no token waits, no visit is to be made, and no task is under way
  abbrev IsIdle : List ℕ → Doing PL → Type 0
  IsIdle waiting Rest = waiting ≡ []
  IsIdle waiting (Visits []) = waiting ≡ []
  IsIdle waiting (Visits (token ∷ left)) = ⊥
  IsIdle waiting (Busy back task) = ⊥
  IsIdle waiting (Leaving arms end) = Unit {0}

  abbrev IsEarly : Mach PL → Type 0
  IsEarly m = (m.greeted ≡ Admitted) ⊎ IsIdle m.books.waiting m.doing

  from_visits : (m : Mach PL) → m.doing ≡ Visits [] → IsIdle m.books.waiting m.doing → m.books.waiting ≡ []
  from_visits m d h = subst (IsIdle m.books.waiting) d h

  busy : {A : Type 0} (m : Mach PL) (back : Option (List ℕ)) (task : Task PL) → m.doing ≡ Busy back task → IsIdle m.books.waiting m.doing → A
  busy m back task d h = absurd (subst (IsIdle m.books.waiting) d h)

  none_visited : (m : Mach PL) (waiting : List ℕ) → waiting ≡ [] → IsEarly (record m { books = record m.books { waiting = [] }; doing = Visits waiting })
  none_visited m [] e = inr refl
  none_visited m (token ∷ left) e = absurd (let f : token ∷ left ≡ [] = e in cc)

  early_of : (m n : Mach PL) → n ≡ m → IsEarly m → IsEarly n
  early_of m n e h = subst IsEarly (sym e) h

module _ {PL : Type 0} (k : Talk PL) where
  -- a login that is over doesn't roll
  over_rolls_none : (s : Stage) (held : List ℕ) (next : _) → s ≡ Admitted → InLogin k s held next → ⊥
  over_rolls_none s held next o x = elim x.at [ inl w ↦ waits_not_over (sym w.0 ∙ o) | inr w ↦ at_not_over x.gate (sym w ∙ o) ]

  greeted_of : (m n : Mach PL) → n ≡ m → n.greeted ≡ m.greeted
  greeted_of m n e = ap (λ (z : Mach PL). z.greeted) e

  tells_greeted : (m : Mach PL) (back : Option (List ℕ)) (token : ℕ) (kept : Books) (after : Option _) (whole : Bool) → (tells m back token kept after whole).greeted ≡ m.greeted
  tells_greeted m back token kept after true = refl
  tells_greeted m back token kept after false = refl

  -- once frames are handled, they are
  over_still : (m n : Mach PL) (e : Event) → m.greeted ≡ Admitted → Step k m e n → (n.greeted ≡ Admitted) × (cast_of e ≡ [])
  over_still m n Turn o s = (greeted_of _ n s.1 ∙ o, refl)
  over_still m n Visit o s = (greeted_of _ n s.3 ∙ o, refl)
  over_still m n (Greeted whole) o s = absurd (waits_not_over (sym s.1 ∙ o))
  over_still m n (Login whole) o s = elim s.2 [
    | inl g ↦ absurd (over_rolls_none m.greeted m.held _ o g.3)
    | inr u ↦ elim u [ inl g ↦ absurd (over_rolls_none m.greeted m.held _ o g.2) | inr g ↦ absurd (over_rolls_none m.greeted m.held _ o g.1) ]
  ]
  over_still m n (Cast bytes) o s = absurd (over_rolls_none m.greeted m.held _ o s.1)
  over_still m n (Begin frame is_read) o s = (greeted_of _ n s.5 ∙ o, refl)
  over_still m n (Heard bytes) o s = (greeted_of _ n s.2 ∙ o, refl)
  over_still m n (Lost bytes) o s = (greeted_of _ n s.2 ∙ o, refl)
  over_still m n Quiet o s = (greeted_of _ n s.1 ∙ o, refl)
  over_still m n Finish o s = (greeted_of _ n s.1 ∙ o, refl)
  over_still m n Broken o s = (greeted_of _ n s.1 ∙ o, refl)
  over_still m n (Long len) o s = (greeted_of _ n s.3 ∙ o, refl)
  over_still m n Wear o s = (greeted_of _ n s.1 ∙ o, refl)
  over_still m n Poor o s = (greeted_of _ n s.1 ∙ o, refl)
  over_still m n (On slot (Ran place order reply) saved) o s = elim s [ inl t ↦ (greeted_of _ n t.goes ∙ o, refl) | inr t ↦ (greeted_of _ n t.2.goes ∙ o, refl) ]
  over_still m n (On slot (Looked place question look) saved) o s = (greeted_of _ n s.goes ∙ o, refl)
  over_still m n (On slot (Denied place) saved) o s = elim s [
    | inl t ↦ (greeted_of _ n t.goes ∙ o, refl)
    | inr u ↦ elim u [ inl t ↦ (greeted_of _ n t.goes ∙ o, refl) | inr t ↦ (greeted_of _ n t.1.goes ∙ o, refl) ]
  ]
  over_still m n (OnNames (Ran place cmd reply)) o s = (greeted_of _ n s.goes ∙ o, refl)
  over_still m n (OnNames (Looked place question names)) o s = (greeted_of _ n s.goes ∙ o, refl)
  over_still m n (OnNames (Denied place)) o s = elim s [ inl t ↦ (greeted_of _ n t.goes ∙ o, refl) | inr t ↦ (greeted_of _ n t.1.goes ∙ o, refl) ]
  over_still m n (Clock moment) o s = (greeted_of _ n s.goes ∙ o, refl)
  over_still m n (Dice bytes) o s = (greeted_of _ n s.goes ∙ o, refl)
  over_still m n Come o s = (greeted_of _ n s.goes ∙ o, refl)
  over_still m n (Say token a whole) o s = (greeted_of _ n s.goes ∙ tells_greeted m s.back token s.kept s.after whole ∙ o, refl)
  over_still m n Want o s = (greeted_of _ n s.goes ∙ o, refl)

  over_casts : (m n : Mach PL) (es : List Event) → m.greeted ≡ Admitted → Run k m es n → casts es ≡ []
  over_casts m n [] o r = refl
  over_casts m n (e ∷ es) o r = let s = over_still m r.0 e o r.1 in (λ i. s.1 i ++ over_casts r.0 n es s.0 r.2 i)

  -- before that, nothing is rolled for a plan
  early_still : (m n : Mach PL) (e : Event) → IsIdle m.books.waiting m.doing → Step k m e n → IsEarly n × (planned_of e ≡ [])
  early_still m n Turn h s = (early_of _ n s.1 (none_visited m m.books.waiting (subst (IsIdle m.books.waiting) s.0 h)), refl)
  early_still m n Visit h s = absurd (subst (IsIdle m.books.waiting) s.2 h)
  early_still m n (Greeted true) h s = elim s.2 [ inl g ↦ (early_of _ n g.4 (inl refl), refl) | inr g ↦ (early_of _ n g.4 (inr tt), refl) ]
  early_still m n (Greeted false) h s = elim s.2 [ inl g ↦ (early_of _ n g.4 (inr tt), refl) | inr g ↦ (early_of _ n g.4 (inr tt), refl) ]
  early_still m n (Login true) h s = elim s.2 [
    | inl g ↦ (early_of _ n g.5 (inr (from_visits m s.0 h)), refl)
    | inr u ↦ elim u [ inl g ↦ (early_of _ n g.4 (inl refl), refl) | inr g ↦ (early_of _ n g.3 (inr tt), refl) ]
  ]
  early_still m n (Login false) h s = elim s.2 [ inl g ↦ (early_of _ n g.5 (inr tt), refl) | inr u ↦ elim u [ inl g ↦ (early_of _ n g.4 (inr tt), refl) | inr g ↦ (early_of _ n g.3 (inr tt), refl) ] ]
  early_still m n (Cast bytes) h s = (early_of _ n s.2 (inr (from_visits m s.0 h)), refl)
  early_still m n (Begin frame is_read) h s = (inl (greeted_of _ n s.5 ∙ s.2), refl)
  early_still m n (Heard bytes) h s = (early_of _ n s.2 (inr (from_visits m s.0.0 h)), refl)
  early_still m n (Lost bytes) h s = (early_of _ n s.2 (inr tt), refl)
  early_still m n Quiet h s = (early_of _ n s.1 (inr (from_visits m s.0.0 h)), refl)
  early_still m n Finish h s = (early_of _ n s.1 (inr tt), refl)
  early_still m n Broken h s = (early_of _ n s.1 (inr tt), refl)
  early_still m n (Long len) h s = (early_of _ n s.3 (inr tt), refl)
  early_still m n Wear h s = (early_of _ n s.1 (inr tt), refl)
  early_still m n Poor h s = (early_of _ n s.1 (inr tt), refl)
  early_still m n (On slot (Ran place order reply) saved) h s = elim s [ inl t ↦ busy m t.back t.task t.doing h | inr t ↦ (early_of _ n t.2.goes (inr tt), refl) ]
  early_still m n (On slot (Looked place question look) saved) h s = busy m s.back s.task s.doing h
  early_still m n (On slot (Denied place) saved) h s = elim s [
    | inl t ↦ busy m t.back t.task t.doing h
    | inr u ↦ elim u [ inl t ↦ busy m t.back t.task t.doing h | inr t ↦ (early_of _ n t.1.goes (inr tt), refl) ]
  ]
  early_still m n (OnNames (Ran place cmd reply)) h s = busy m s.back s.task s.doing h
  early_still m n (OnNames (Looked place question names)) h s = busy m s.back s.task s.doing h
  early_still m n (OnNames (Denied place)) h s = elim s [ inl t ↦ busy m t.back t.task t.doing h | inr t ↦ busy m t.1.back t.1.task t.1.doing h ]
  early_still m n (Clock moment) h s = busy m s.back s.task s.doing h
  early_still m n (Dice bytes) h s = busy m s.back s.task s.doing h
  early_still m n Come h s = busy m s.back _ s.doing h
  early_still m n (Say token a whole) h s = busy m s.back _ s.doing h
  early_still m n Want h s = busy m s.back s.task s.doing h

  -- a roll is of a login or for a plan
  each_roll : (e : Event) → rolled_of e ≡ cast_of e ++ planned_of e
  each_roll (Cast bytes) = refl
  each_roll (Dice bytes) = refl
  each_roll other = refl

  over_rolls : (m n : Mach PL) (es : List Event) → m.greeted ≡ Admitted → Run k m es n → rolled es ≡ planned es
  over_rolls m n [] o r = refl
  over_rolls m n (e ∷ es) o r =
      let s = over_still m r.0 e o r.1 in
      let own : rolled_of e ≡ planned_of e = each_roll e ∙ ap (λ z. z ++ planned_of e) s.1 in
      (λ i. own i ++ over_rolls r.0 n es s.0 r.2 i)

  rolls_first : (m n : Mach PL) (es : List Event) → IsEarly m → Run k m es n → rolled es ≡ casts es ++ planned es
  rolls_first m n [] h r = refl
  rolls_first m n (e ∷ es) (inl o) r = over_rolls m n (e ∷ es) o r ∙ ap (λ z. z ++ planned (e ∷ es)) (sym (over_casts m n (e ∷ es) o r))
  rolls_first m n (e ∷ es) (inr h) r =
      let s = early_still m r.0 e h r.1 in
      let own : rolled_of e ≡ cast_of e = each_roll e ∙ ap (λ z. cast_of e ++ z) s.1 ∙ append-nil (cast_of e) in
      (λ i. own i ++ rolls_first r.0 n es s.0 r.2 i) ∙ sym (append_assoc (cast_of e) (casts es) (planned es)) ∙ ap (λ z. (cast_of e ++ casts es) ++ (z ++ planned es)) (sym s.1)

  pub login_rolls_first : LoginRollsFirst k
  login_rolls_first share life e = sym e.dice ∙ rolls_first fresh e.final e.events (inr refl) e.run
