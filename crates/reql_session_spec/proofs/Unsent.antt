-- The first failed send ends a session.
use Rattle.std.proofs.Common.{◌≡◌, ◌⊎◌, ℕ, true, false, List, [], ◌∷◌, ◌++◌, Option, Some, None, refl, sym, ap, subst, inl, inr}
use Rattle.std.specs.List.{AllByRecursion}
use Rattle.reql_shared.specs.Acts.{Ran, Looked, Denied}
use Rattle.reql_session_spec.specs.Requests.{Arm}
use Rattle.reql_session_spec.specs.Tasks.{Talk, Task}
use Rattle.reql_session_spec.specs.Laws.{IsUnsent, IsClosing, FirstFailed}
use Rattle.reql_session_spec.specs.Session.{Event, Turn, Visit, Greeted, Login, Cast, Begin, Heard, Lost, Quiet, Finish, Broken, Long, Wear, Poor, On, OnNames, Dice, Clock, Come, Say, Want, Doing, Leaving, Mach, doing_next, end_of, fresh, Step, Run, LeavesArm}
use Rattle.reql_session_spec.specs.declared.end.End.{End}
use Rattle.reql_session_spec.specs.declared.end.End.TheVariants as ends

abbrev pub IsWrite : End → Type 0
IsWrite ends.WriteFault = Unit {0}
IsWrite end = ⊥

is_write : (end : End) → IsWrite end → end ≡ ends.WriteFault
is_write ends.WriteFault h = refl
is_write end h = absurd h

not_over : (held : List ℕ) → IsWrite (end_of held) → ⊥
not_over [] h = h
not_over (b ∷ bs) h = h

module _ {PL : Type 0} where
  abbrev pub IsBroken : Doing PL → Type 0
  IsBroken (Leaving arms end) = IsWrite end
  IsBroken other = ⊥

  goes_none : (back : Option (List ℕ)) (t : Option (Task PL)) → IsBroken (doing_next back t) → ⊥
  goes_none None None h = h
  goes_none (Some left) None h = h
  goes_none back (Some t) h = h

  doing_of : (m x : Mach PL) → x ≡ m → x.doing ≡ m.doing
  doing_of m x e = ap (λ (z : Mach PL). z.doing) e

  on : {A : Type 0} (m x : Mach PL) (back : Option (List ℕ)) (t : Option (Task PL)) → x.doing ≡ doing_next back t → IsBroken x.doing → A
  on m x back t e h = absurd (goes_none back t (subst IsBroken e h))

  no : {A : Type 0} (m x : Mach PL) (d : Doing PL) → x.doing ≡ d → (IsBroken d → ⊥) → IsBroken x.doing → A
  no m x d e n h = absurd (n (subst IsBroken e h))

module _ {PL : Type 0} (k : Talk PL) where
  by_arm : (m n : Mach PL) (slot : ℕ) (arm : Arm) → LeavesArm k m slot arm n → IsBroken m.doing → IsBroken n.doing
  by_arm m n slot arm s h = subst IsBroken (sym (doing_of _ _ s.goes)) (subst IsBroken s.doing h)

  from_arm : (m n : Mach PL) (slot : ℕ) (arm : Arm) → LeavesArm k m slot arm n → IsBroken n.doing → IsBroken m.doing
  from_arm m n slot arm s h = subst IsBroken (sym s.doing) (subst IsBroken (doing_of _ _ s.goes) h)

  -- ---- after a failed send arms are closed, and nothing else is done
  closing : (m n : Mach PL) (e : Event) → Step k m e n → IsBroken m.doing → IsClosing e × IsBroken n.doing
  closing m n Turn s h = absurd (subst IsBroken s.0 h)
  closing m n Visit s h = absurd (subst IsBroken s.2 h)
  closing m n (Greeted whole) s h = absurd (subst IsBroken s.0 h)
  closing m n (Login whole) s h = absurd (subst IsBroken s.0 h)
  closing m n (Cast bytes) s h = absurd (subst IsBroken s.0 h)
  closing m n (Begin frame is_read) s h = absurd (subst IsBroken s.1 h)
  closing m n (Heard bytes) s h = absurd (subst IsBroken s.0.0 h)
  closing m n (Lost bytes) s h = absurd (subst IsBroken s.0.0 h)
  closing m n Quiet s h = absurd (subst IsBroken s.0.0 h)
  closing m n Finish s h = absurd (subst IsBroken s.0.0 h)
  closing m n Broken s h = absurd (subst IsBroken s.0.0 h)
  closing m n (Long len) s h = absurd (subst IsBroken s.0 h)
  closing m n Wear s h = absurd (subst IsBroken s.0 h)
  closing m n Poor s h = elim s.0 [
    | inl d ↦ absurd (subst IsBroken d.0 h)
    | inr x ↦ elim x [ inl d ↦ absurd (subst IsBroken d.0 h) | inr d ↦ absurd (subst IsBroken d.0 h) ]
  ]
  closing m n (On slot (Ran place order reply) saved) s h = elim s [
    | inl t ↦ absurd (subst IsBroken t.doing h)
    | inr t ↦ ((t.0.feed, t.1), by_arm m n slot t.0 t.2 h)
  ]
  closing m n (On slot (Looked place question look) saved) s h = absurd (subst IsBroken s.doing h)
  closing m n (On slot (Denied place) saved) s h = elim s [
    | inl t ↦ absurd (subst IsBroken t.doing h)
    | inr u ↦ elim u [
      | inl t ↦ absurd (subst IsBroken t.doing h)
      | inr t ↦ (tt, by_arm m n slot t.0 t.1 h)
    ]
  ]
  closing m n (OnNames (Ran place cmd reply)) s h = absurd (subst IsBroken s.doing h)
  closing m n (OnNames (Looked place question names)) s h = absurd (subst IsBroken s.doing h)
  closing m n (OnNames (Denied place)) s h = elim s [ inl t ↦ absurd (subst IsBroken t.doing h) | inr t ↦ absurd (subst IsBroken t.1.doing h) ]
  closing m n (Clock moment) s h = absurd (subst IsBroken s.doing h)
  closing m n (Dice bytes) s h = absurd (subst IsBroken s.doing h)
  closing m n Come s h = absurd (subst IsBroken s.doing h)
  closing m n (Say token a whole) s h = absurd (subst IsBroken s.doing h)
  closing m n Want s h = absurd (subst IsBroken s.doing h)

  pub all_closing : (m n : Mach PL) (es : List Event) → Run k m es n → IsBroken m.doing → AllByRecursion IsClosing es × IsBroken n.doing
  all_closing m n [] r h = (tt, subst IsBroken (sym (doing_of _ _ r)) h)
  all_closing m n (e ∷ es) r h =
      let c = closing m r.0 e r.1 h in
      let a = all_closing r.0 n es r.2 c.1 in
      ((c.0, a.0), a.1)

  unsent_leaves : (m n : Mach PL) (e : Event) → Step k m e n → IsUnsent e → IsBroken n.doing
  unsent_leaves m n (Say token a false) s u = subst IsBroken (sym (doing_of _ _ s.goes)) tt
  unsent_leaves m n (Greeted false) s u = elim s.2 [ inl g ↦ subst IsBroken (sym (doing_of _ _ g.4)) tt | inr g ↦ subst IsBroken (sym (doing_of _ _ g.4)) tt ]
  unsent_leaves m n (Login false) s u = elim s.2 [ inl g ↦ subst IsBroken (sym (doing_of _ _ g.5)) tt | inr r ↦ elim r [ inl g ↦ subst IsBroken (sym (doing_of _ _ g.4)) tt | inr g ↦ subst IsBroken (sym (doing_of _ _ g.3)) tt ] ]
  unsent_leaves m n other s u = absurd u

  run_at : (m n : Mach PL) (before : List Event) (x : Event) (after : List Event) → Run k m (before ++ x ∷ after) n → (p : Mach PL) × (q : Mach PL) × Step k p x q × Run k q after n
  run_at m n [] x after r = (m, r.0, r.1, r.2)
  run_at m n (e ∷ before) x after r = run_at r.0 n before x after r.2

  -- ---- a session that leaves so left so before, but where a send failed
  back : (m n : Mach PL) (e : Event) → Step k m e n → IsBroken n.doing → IsBroken m.doing ⊎ IsUnsent e
  back m n Turn s h = no m n _ (doing_of _ _ s.1) (λ x. x) h
  back m n Visit s h = on m n (Some s.1) _ (doing_of _ _ s.3) h
  back m n (Greeted true) s h = elim s.2 [ inl g ↦ no m n _ (doing_of _ _ g.4) (λ x. x) h | inr g ↦ no m n _ (doing_of _ _ g.4) (λ x. x) h ]
  back m n (Greeted false) s h = inr tt
  back m n (Login true) s h = elim s.2 [ inl g ↦ no m n _ (doing_of _ _ g.5) (λ x. x) h | inr r ↦ elim r [ inl g ↦ no m n _ (doing_of _ _ g.4) (λ x. x) h | inr g ↦ no m n _ (doing_of _ _ g.3) (λ x. x) h ] ]
  back m n (Login false) s h = inr tt
  back m n (Cast bytes) s h = no m n _ (doing_of _ _ s.2) (λ x. x) h
  back m n (Begin frame is_read) s h = on m n None _ (doing_of _ _ s.5) h
  back m n (Heard bytes) s h = no m n _ (doing_of _ _ s.2) (λ x. x) h
  back m n (Lost bytes) s h = no m n _ (doing_of _ _ s.2) (λ x. x) h
  back m n Quiet s h = no m n _ (doing_of _ _ s.1) (λ x. x) h
  back m n Finish s h = no m n _ (doing_of _ _ s.1) (not_over m.held) h
  back m n Broken s h = no m n _ (doing_of _ _ s.1) (λ x. x) h
  back m n (Long len) s h = no m n _ (doing_of _ _ s.3) (λ x. x) h
  back m n Wear s h = no m n _ (doing_of _ _ s.1) (λ x. x) h
  back m n Poor s h = no m n _ (doing_of _ _ s.1) (λ x. x) h
  back m n (On slot (Ran place order reply) saved) s h = elim s [
    | inl t ↦ on m n _ _ (doing_of _ _ t.goes) h
    | inr t ↦ inl (from_arm m n slot t.0 t.2 h)
  ]
  back m n (On slot (Looked place question look) saved) s h = on m n _ _ (doing_of _ _ s.goes) h
  back m n (On slot (Denied place) saved) s h = elim s [
    | inl t ↦ on m n _ _ (doing_of _ _ t.goes) h
    | inr u ↦ elim u [
      | inl t ↦ on m n _ _ (doing_of _ _ t.goes) h
      | inr t ↦ inl (from_arm m n slot t.0 t.1 h)
    ]
  ]
  back m n (OnNames (Ran place cmd reply)) s h = on m n _ _ (doing_of _ _ s.goes) h
  back m n (OnNames (Looked place question names)) s h = on m n _ _ (doing_of _ _ s.goes) h
  back m n (OnNames (Denied place)) s h = elim s [
    | inl t ↦ on m n _ _ (doing_of _ _ t.goes) h
    | inr t ↦ on m n _ _ (doing_of _ _ t.1.goes) h
  ]
  back m n (Clock moment) s h = on m n _ _ (doing_of _ _ s.goes) h
  back m n (Dice bytes) s h = on m n _ _ (doing_of _ _ s.goes) h
  back m n Come s h = on m n _ _ (doing_of _ _ s.goes) h
  back m n (Say token a true) s h = on m n _ _ (doing_of _ _ s.goes) h
  back m n (Say token a false) s h = inr tt
  back m n Want s h = on m n _ _ (doing_of _ _ s.goes) h

  -- where an answer in these events was sent in part alone
  abbrev Fails : List Event → Type 0
  Fails es = (before : List Event) × (x : Event) × (after : List Event) × (es ≡ before ++ x ∷ after) × IsUnsent x

  fails : (m n : Mach PL) (es : List Event) → Run k m es n → IsBroken n.doing → IsBroken m.doing ⊎ Fails es
  fails m n [] r h = inl (subst IsBroken (doing_of _ _ r) h)
  fails m n (e ∷ es) r h = elim (fails r.0 n es r.2 h) [
    | inl x ↦ elim (back m r.0 e r.1 x) [ inl y ↦ inl y | inr y ↦ inr ([], e, es, refl, y) ]
    | inr x ↦ inr (e ∷ x.0, x.1, x.2, ap (λ z. e ∷ z) x.3, x.4)
  ]

  pub first_failed : FirstFailed k
  first_failed share life e = (
    (λ before x after same u.
        let s = run_at fresh e.final before x after (subst (λ es. Run k fresh es e.final) same e.run) in
        let a = all_closing s.1 e.final after s.3 (unsent_leaves s.0 s.1 x s.2 u) in
        (is_write life.end (subst IsBroken e.ended a.1), a.0)),
    (λ w. elim (fails fresh e.final e.events e.run (subst IsBroken (sym e.ended) (subst IsWrite (sym w) tt))) [ inl x ↦ absurd x | inr x ↦ x ]),
  )
