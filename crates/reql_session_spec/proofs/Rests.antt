-- What is held when a session leaves.
use Rattle.std.proofs.Common.{ℕ, true, false, List, [], ◌∷◌, Option, Some, None, refl, sym, subst, inl, inr, arith}
use Rattle.reql_shared.specs.Acts.{Ran, Looked, Denied}
use Rattle.reql_session_spec.specs.Requests.{Arm, SawNames, Clocked, SawSlot, ChangedNames, Rolled}
use Rattle.reql_session_spec.specs.Books.{saw_names}
use Rattle.reql_session_spec.specs.Tasks.{Talk, Task, Next, visit, takes_up, ran, found_more, wanted, denied, told, comes_to, batch_size}
use Rattle.reql_session_spec.specs.Session.{Event, Turn, Visit, Greeted, Login, Cast, Begin, Heard, Lost, Quiet, Finish, Broken, Long, Wear, Poor, On, OnNames, Dice, Clock, Come, Say, Want, Doing, Leaving, Mach, doing_next, goes_on, end_of, fresh, Unread, Step, Run, LeavesArm}
use Rattle.reql_session_spec.specs.Logins.{Stage}
use Rattle.reql_session_spec.specs.Laws.{LeftAs, FramesHandled}
use Rattle.reql_session_spec.proofs.Orders.{handled}

module _ {PL : Type 0} (k : Talk PL) where
  abbrev LeftWhen : Doing PL → Stage → List ℕ → Type 0
  LeftWhen (Leaving arms end) greeted held = LeftAs k end greeted held
  LeftWhen other greeted held = Unit {0}

  abbrev IsLeft : Mach PL → Type 0
  IsLeft m = LeftWhen m.doing m.greeted m.held

  left_goes : (back : Option (List ℕ)) (t : Option (Task PL)) (greeted : Stage) (held : List ℕ) → LeftWhen (doing_next back t) greeted held
  left_goes None None greeted held = tt
  left_goes (Some left) None greeted held = tt
  left_goes back (Some t) greeted held = tt

  left_by : (m : Mach PL) (back : Option (List ℕ)) (x : Next PL) → IsLeft (goes_on m back x)
  left_by m back x = left_goes back x.task m.greeted m.held

  left_end : (greeted : Stage) (held : List ℕ) → Unread k greeted held → LeftAs k (end_of held) greeted held
  left_end greeted [] u = (refl, u)
  left_end greeted (b ∷ bs) u = (refl, omega arith, u)

  left_arm : (m n : Mach PL) (slot : ℕ) (arm : Arm) → LeavesArm k m slot arm n → IsLeft m → IsLeft n
  left_arm m n slot arm s h = subst IsLeft (sym s.goes) (subst (λ z. LeftWhen z m.greeted m.held) s.doing h)

  left_step : (m n : Mach PL) (e : Event) → Step k m e n → IsLeft m → IsLeft n
  left_step m n Turn s h = subst IsLeft (sym s.1) tt
  left_step m n Visit s h = subst IsLeft (sym s.3) (left_by m (Some s.1) (visit k m.books s.0))
  left_step m n (Greeted true) s h = elim s.2 [
    | inl g ↦ subst IsLeft (sym g.4) tt
    | inr g ↦ subst IsLeft (sym g.4) (inl (s.1, g.1))
  ]
  left_step m n (Greeted false) s h = elim s.2 [ inl g ↦ subst IsLeft (sym g.4) tt | inr g ↦ subst IsLeft (sym g.4) tt ]
  left_step m n (Login true) s h = elim s.2 [
    | inl g ↦ subst IsLeft (sym g.5) tt
    | inr r ↦ elim r [ inl g ↦ subst IsLeft (sym g.4) tt | inr g ↦ subst IsLeft (sym g.3) (inr (g.0, refl, g.1)) ]
  ]
  left_step m n (Login false) s h = elim s.2 [ inl g ↦ subst IsLeft (sym g.5) tt | inr r ↦ elim r [ inl g ↦ subst IsLeft (sym g.4) tt | inr g ↦ subst IsLeft (sym g.3) tt ] ]
  left_step m n (Cast bytes) s h = subst IsLeft (sym s.2) tt
  left_step m n (Begin frame is_read) s h = subst IsLeft (sym s.5) (left_by (record m { held = s.0 }) None (takes_up k m.books frame.token frame.body is_read))
  left_step m n (Heard bytes) s h = subst IsLeft (sym s.2) tt
  left_step m n (Lost bytes) s h = subst IsLeft (sym s.2) tt
  left_step m n Quiet s h = subst IsLeft (sym s.1) tt
  left_step m n Finish s h = subst IsLeft (sym s.1) (left_end m.greeted m.held s.0.1)
  left_step m n Broken s h = subst IsLeft (sym s.1) s.0.1
  left_step m n (Long len) s h = subst IsLeft (sym s.3) (s.1, s.2)
  left_step m n Wear s h = subst IsLeft (sym s.1) tt
  left_step m n Poor s h = subst IsLeft (sym s.1) tt
  left_step m n (On slot (Ran place order reply) saved) s h = elim s [
    | inl t ↦ subst IsLeft (sym t.goes) (left_by m t.back (ran k m.books t.task slot order.cmd reply saved))
    | inr t ↦ left_arm m n slot t.0 t.2 h
  ]
  left_step m n (On slot (Looked place question look) saved) s h = subst IsLeft (sym s.goes) (left_by m s.back (found_more k m.books s.task (SawSlot slot look)))
  left_step m n (On slot (Denied place) saved) s h = elim s [
    | inl t ↦ subst IsLeft (sym t.goes) (left_by m t.back (denied m.books t.task slot t.order.cmd))
    | inr u ↦ elim u [
      | inl t ↦ subst IsLeft (sym t.goes) (left_by m t.back (wanted m.books t.task))
      | inr t ↦ left_arm m n slot t.0 t.1 h
    ]
  ]
  left_step m n (OnNames (Ran place cmd reply)) s h = subst IsLeft (sym s.goes) (left_by m s.back (found_more k (saw_names reply.place m.books) s.task (ChangedNames reply.place reply)))
  left_step m n (OnNames (Looked place question names)) s h = subst IsLeft (sym s.goes) (left_by m s.back (found_more k (saw_names place m.books) s.task (SawNames place names)))
  left_step m n (OnNames (Denied place)) s h = elim s [
    | inl t ↦ subst IsLeft (sym t.goes) (left_by m t.back (wanted m.books t.task))
    | inr t ↦ subst IsLeft (sym t.1.goes) (left_by m t.1.back (wanted m.books t.1.task))
  ]
  left_step m n (Clock moment) s h = subst IsLeft (sym s.goes) (left_by m s.back (found_more k m.books s.task (Clocked moment)))
  left_step m n (Dice bytes) s h = subst IsLeft (sym s.goes) (left_by m s.back (found_more k m.books s.task (Rolled bytes)))
  left_step m n Come s h = subst IsLeft (sym s.goes) (left_by m s.back (comes_to k m.books s.token (batch_size k s.plan) s.found s.arms s.to))
  left_step m n (Say token a true) s h = subst IsLeft (sym s.goes) (left_by m s.back (told token s.kept s.after))
  left_step m n (Say token a false) s h = subst IsLeft (sym s.goes) tt
  left_step m n Want s h = subst IsLeft (sym s.goes) (left_by m s.back (wanted m.books s.task))

  left_run : (m n : Mach PL) (es : List Event) → Run k m es n → IsLeft m → IsLeft n
  left_run m n [] r h = subst IsLeft (sym r) h
  left_run m n (e ∷ es) r h = left_run r.0 n es r.2 (left_step m r.0 e r.1 h)

  pub frames_handled : FramesHandled k
  frames_handled share life e = (
    handled k fresh e.final e.events e.run,
    subst (λ z. LeftWhen z e.final.greeted e.final.held) e.ended (left_run fresh e.final e.events e.run tt),
  )
