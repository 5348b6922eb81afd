-- A session closes, or is cut, only where its input is over.
use Rattle.std.proofs.Common.{◌≡◌, ◌⊎◌, ℕ, true, false, true≢false, List, [], ◌∷◌, Option, Some, None, refl, sym, ap, subst, ◌∙◌, inl, inr}
use Rattle.reql_shared.specs.Acts.{Ran, Looked, Denied}
use Rattle.reql_session_spec.specs.Requests.{Arm}
use Rattle.reql_session_spec.specs.Tasks.{Talk, Task}
use Rattle.reql_session_spec.specs.Session.{Event, Turn, Visit, Greeted, Login, Cast, Begin, Heard, Lost, Quiet, Finish, Broken, Long, Wear, Poor, On, OnNames, Dice, Clock, Come, Say, Want, Doing, Leaving, Mach, doing_next, fresh, Step, Run, LeavesArm, over}
use Rattle.reql_session_spec.specs.Explained.{DeskShare, Life, Explained}
use Rattle.reql_session_spec.specs.declared.end.End.{End}
use Rattle.reql_session_spec.specs.declared.end.End.TheVariants as ends

-- leaving since no more came
abbrev pub IsLast : End → Type 0
IsLast ends.Closed = Unit {0}
IsLast (ends.Cut n) = Unit {0}
IsLast end = ⊥

module _ {PL : Type 0} where
  abbrev IsLeaving : Doing PL → Type 0
  IsLeaving (Leaving arms end) = IsLast end
  IsLeaving other = ⊥

  goes_none : (back : Option (List ℕ)) (t : Option (Task PL)) → IsLeaving (doing_next back t) → ⊥
  goes_none None None h = h
  goes_none (Some left) None h = h
  goes_none back (Some t) h = h

  -- what a step that went on with a task is doing
  on : (m x : Mach PL) (back : Option (List ℕ)) (t : Option (Task PL)) → x.doing ≡ doing_next back t → IsLeaving x.doing → IsLeaving m.doing
  on m x back t e h = absurd (goes_none back t (subst IsLeaving e h))

  -- what one that does something else is doing
  no : (m x : Mach PL) (d : Doing PL) → x.doing ≡ d → (IsLeaving d → ⊥) → IsLeaving x.doing → IsLeaving m.doing
  no m x d e n h = absurd (n (subst IsLeaving e h))

  doing_of : (m x : Mach PL) → x ≡ m → x.doing ≡ m.doing
  doing_of m x e = ap (λ (z : Mach PL). z.doing) e

module _ {PL : Type 0} (k : Talk PL) where
  by_arm : (m n : Mach PL) (slot : ℕ) (arm : Arm) → LeavesArm k m slot arm n → IsLeaving n.doing → IsLeaving m.doing
  by_arm m n slot arm s h = subst IsLeaving (sym s.doing) (subst IsLeaving (doing_of _ _ s.goes) h)

  -- a session that leaves so left so before, but where its input ended
  back : (m n : Mach PL) (e : Event) → Step k m e n → IsLeaving n.doing → IsLeaving m.doing ⊎ (over (e ∷ []) ≡ true)
  back m n Turn s h = inl (no m n _ (doing_of _ _ s.1) (λ x. x) h)
  back m n Visit s h = inl (on m n (Some s.1) _ (doing_of _ _ s.3) h)
  back m n (Greeted true) s h = elim s.2 [ inl g ↦ inl (no m n _ (doing_of _ _ g.4) (λ x. x) h) | inr g ↦ inl (no m n _ (doing_of _ _ g.4) (λ x. x) h) ]
  back m n (Greeted false) s h = elim s.2 [ inl g ↦ inl (no m n _ (doing_of _ _ g.4) (λ x. x) h) | inr g ↦ inl (no m n _ (doing_of _ _ g.4) (λ x. x) h) ]
  back m n (Login true) s h = elim s.2 [ inl g ↦ inl (no m n _ (doing_of _ _ g.5) (λ x. x) h) | inr r ↦ elim r [ inl g ↦ inl (no m n _ (doing_of _ _ g.4) (λ x. x) h) | inr g ↦ inl (no m n _ (doing_of _ _ g.3) (λ x. x) h) ] ]
  back m n (Login false) s h = elim s.2 [ inl g ↦ inl (no m n _ (doing_of _ _ g.5) (λ x. x) h) | inr r ↦ elim r [ inl g ↦ inl (no m n _ (doing_of _ _ g.4) (λ x. x) h) | inr g ↦ inl (no m n _ (doing_of _ _ g.3) (λ x. x) h) ] ]
  back m n (Cast bytes) s h = inl (no m n _ (doing_of _ _ s.2) (λ x. x) h)
  back m n (Begin frame is_read) s h = inl (on m n None _ (doing_of _ _ s.5) h)
  back m n (Heard bytes) s h = inl (no m n _ (doing_of _ _ s.2) (λ x. x) h)
  back m n (Lost bytes) s h = inl (no m n _ (doing_of _ _ s.2) (λ x. x) h)
  back m n Quiet s h = inl (no m n _ (doing_of _ _ s.1) (λ x. x) h)
  back m n Finish s h = inr refl
  back m n Broken s h = inl (no m n _ (doing_of _ _ s.1) (λ x. x) h)
  back m n (Long len) s h = inl (no m n _ (doing_of _ _ s.3) (λ x. x) h)
  back m n Wear s h = inl (no m n _ (doing_of _ _ s.1) (λ x. x) h)
  back m n Poor s h = inl (no m n _ (doing_of _ _ s.1) (λ x. x) h)
  back m n (On slot (Ran place order reply) saved) s h = elim s [
    | inl t ↦ inl (on m n _ _ (doing_of _ _ t.goes) h)
    | inr t ↦ inl (by_arm m n slot t.0 t.2 h)
  ]
  back m n (On slot (Looked place question look) saved) s h = inl (on m n _ _ (doing_of _ _ s.goes) h)
  back m n (On slot (Denied place) saved) s h = elim s [
    | inl t ↦ inl (on m n _ _ (doing_of _ _ t.goes) h)
    | inr u ↦ elim u [
      | inl t ↦ inl (on m n _ _ (doing_of _ _ t.goes) h)
      | inr t ↦ inl (by_arm m n slot t.0 t.1 h)
    ]
  ]
  back m n (OnNames (Ran place cmd reply)) s h = inl (on m n _ _ (doing_of _ _ s.goes) h)
  back m n (OnNames (Looked place question names)) s h = inl (on m n _ _ (doing_of _ _ s.goes) h)
  back m n (OnNames (Denied place)) s h = elim s [
    | inl t ↦ inl (on m n _ _ (doing_of _ _ t.goes) h)
    | inr t ↦ inl (on m n _ _ (doing_of _ _ t.1.goes) h)
  ]
  back m n (Clock moment) s h = inl (on m n _ _ (doing_of _ _ s.goes) h)
  back m n (Dice bytes) s h = inl (on m n _ _ (doing_of _ _ s.goes) h)
  back m n Come s h = inl (on m n _ _ (doing_of _ _ s.goes) h)
  back m n (Say token a true) s h = inl (on m n _ _ (doing_of _ _ s.goes) h)
  back m n (Say token a false) s h = inl (no m n _ (doing_of _ _ s.goes) (λ x. x) h)
  back m n Want s h = inl (on m n _ _ (doing_of _ _ s.goes) h)

  -- an input that is over was over in some step
  first_over : (e : Event) (es : List Event) → over (e ∷ []) ≡ true → over (e ∷ es) ≡ true
  first_over Finish es h = refl
  first_over Turn es h = absurd (true≢false (sym h))
  first_over Visit es h = absurd (true≢false (sym h))
  first_over (Greeted whole) es h = absurd (true≢false (sym h))
  first_over (Login whole) es h = absurd (true≢false (sym h))
  first_over (Cast bytes) es h = absurd (true≢false (sym h))
  first_over (Begin frame is_read) es h = absurd (true≢false (sym h))
  first_over (Heard bytes) es h = absurd (true≢false (sym h))
  first_over (Lost bytes) es h = absurd (true≢false (sym h))
  first_over Quiet es h = absurd (true≢false (sym h))
  first_over Broken es h = absurd (true≢false (sym h))
  first_over (Long len) es h = absurd (true≢false (sym h))
  first_over Wear es h = absurd (true≢false (sym h))
  first_over Poor es h = absurd (true≢false (sym h))
  first_over (On slot act saved) es h = absurd (true≢false (sym h))
  first_over (OnNames act) es h = absurd (true≢false (sym h))
  first_over (Clock moment) es h = absurd (true≢false (sym h))
  first_over (Dice bytes) es h = absurd (true≢false (sym h))
  first_over Come es h = absurd (true≢false (sym h))
  first_over (Say token a whole) es h = absurd (true≢false (sym h))
  first_over Want es h = absurd (true≢false (sym h))

  later_over : (e : Event) (es : List Event) → over es ≡ true → over (e ∷ es) ≡ true
  later_over Finish es h = refl
  later_over Turn es h = h
  later_over Visit es h = h
  later_over (Greeted whole) es h = h
  later_over (Login whole) es h = h
  later_over (Cast bytes) es h = h
  later_over (Begin frame is_read) es h = h
  later_over (Heard bytes) es h = h
  later_over (Lost bytes) es h = h
  later_over Quiet es h = h
  later_over Broken es h = h
  later_over (Long len) es h = h
  later_over Wear es h = h
  later_over Poor es h = h
  later_over (On slot act saved) es h = h
  later_over (OnNames act) es h = h
  later_over (Clock moment) es h = h
  later_over (Dice bytes) es h = h
  later_over Come es h = h
  later_over (Say token a whole) es h = h
  later_over Want es h = h

  over_run : (m n : Mach PL) (es : List Event) → Run k m es n → IsLeaving n.doing → IsLeaving m.doing ⊎ (over es ≡ true)
  over_run m n [] r h = inl (subst IsLeaving (doing_of _ _ r) h)
  over_run m n (e ∷ es) r h = elim (over_run r.0 n es r.2 h) [
    | inl x ↦ elim (back m r.0 e r.1 x) [ inl y ↦ inl y | inr y ↦ inr (first_over e es y) ]
    | inr x ↦ inr (later_over e es x)
  ]

  pub over_at_end : (share : DeskShare) (life : Life) → Explained k share life → IsLast life.end → life.over ≡ true
  over_at_end share life e h = elim (over_run fresh e.final e.events e.run (subst IsLeaving (sym e.ended) h)) [
    | inl x ↦ absurd x
    | inr x ↦ sym e.closed ∙ x
  ]
