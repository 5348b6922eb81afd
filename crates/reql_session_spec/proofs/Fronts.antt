-- What a session sent of one arm of a feed is a front of what its Takes gave: over all its events.
use Rattle.std.proofs.Common.{◌≡◌, ◌⊎◌, inl, inr, ℕ, Bool, true, false, true≢false, cond, ◌&&◌, map, List, [], ◌∷◌, ◌++◌, Option, Some, None, refl, sym, ap, subst, ◌∙◌, append_assoc, append-nil}
use Rattle.std.specs.List.{AllByRecursion}
use Rattle.std.specs.Prelude.{nat_eq}
use Rattle.std.proofs.lemmas.Grind.{flat_map-append}
use Rattle.reql_shared.specs.Acts.{Act, Ran, Looked, Denied}
use Rattle.reql_table_spec.specs.declared.command.Cmd.TheVariants as cmds
use Rattle.reql_table_spec.specs.declared.command.Order.{Order}
use Rattle.reql_table_machine_spec.specs.declared.command.Said.TheVariants as said
use Rattle.reql_table_spec.specs.Replies.{Answered as Told}
use Rattle.reql_table_spec.specs.Laws.{known_act}
use Rattle.reql_table_spec.specs.Machine.{Seen, known_cmd}
use Rattle.reql_table_spec.specs.declared.command.FeedSpec.{FeedSpec}
use Rattle.reql_table_spec.specs.declared.reply.Saved.{Saved}
use Rattle.reql_write_spec.specs.declared.command.Summary.{Summary}
use Rattle.reql_datum.specs.Plain.{Plain}
use Rattle.reql_table_machine_spec.specs.Fed.{Taking, taking_by, is_end, takings}
use Rattle.reql_table_machine_spec.proofs.Tracking.{split}
use Rattle.reql_table_spec.specs.Indexes.{IndexCmd}
use Rattle.reql_table_machine_spec.specs.declared.command.Cmd.{Cmd as Known}
use Rattle.reql_table_machine_spec.specs.declared.command.Order.{Order as Asked}
use Rattle.reql_write_spec.specs.declared.command.WriteCmd.{WriteCmd}
use Rattle.reql_session_spec.specs.Requests.{Arm, Found, SawNames, Clocked, SawSlot, ChangedNames, Rolled}
use Rattle.reql_session_spec.specs.Books.{Books, saw_names}
use Rattle.reql_session_spec.specs.Tasks.{Talk, Task, Planning, Visiting, Telling, Closing, Next, Runs, visit, takes_up, batch_size, ran, wanted, denied, told, found_more, comes_to, close_order, take_order}
use Rattle.reql_session_spec.specs.Minding.{PlansMind}
use Rattle.reql_session_spec.specs.Session.{Event, Turn, Visit, Greeted, Login, Cast, Begin, Heard, Lost, Quiet, Finish, Broken, Long, Wear, Poor, On, OnNames, Dice, Clock, Come, Say, Want, Doing, Rest, Visits, Busy, Leaving, Mach, fresh, doing_next, goes_on, Step, Run, acts_on}
use Rattle.reql_session_spec.specs.Explained.{told_in, told_by, all_told, taken_in, all_taken}
use Rattle.reql_session_spec.proofs.Shelves.{which}
use Rattle.reql_session_spec.proofs.Tellings.{F, Clean, OkTask, OkOption, OkNext, ok_wanted, ok_denied, ok_told, ok_visit, ok_comes, ok_takes_up}
use Rattle.reql_session_spec.proofs.Sendings.{NotOpened, new_by, ends_by, Out, ok_ran, ok_found}

-- the acts on a slot, as the machine of tables knows them
abbrev pub known_on : ℕ → List Event → List (Act (Asked (Known WriteCmd IndexCmd FeedSpec)) Told (Unit {0}) Seen)
known_on slot es = map known_act (acts_on slot es)

module _ {PL : Type 0} (k : Talk PL) (on : PL → Bool → ℕ → List Found → List Arm → Type 0) (σ φ : ℕ) (skips : Bool) where
  abbrev pub E : Type 0
  E = Event

  abbrev pub MM : Type 0
  MM = Mach PL

  abbrev pub OkDoing : Bool → Books → Doing PL → List (ℕ × Plain) → Type 0
  OkDoing c b Rest p = F k on σ φ skips c b p
  OkDoing c b (Visits left) p = F k on σ φ skips c b p
  OkDoing c b (Busy back t) p = OkTask k on σ φ skips c b t p
  OkDoing c b (Leaving arms end) p = Unit {0}

  abbrev pub OkM : Bool → MM → List (ℕ × Plain) → Type 0
  OkM c m p = OkDoing c m.books m.doing p

  ok_doing : (c : Bool) (b : Books) (back : Option (List ℕ)) (t : Option (Task PL)) (p : List (ℕ × Plain)) → OkOption k on σ φ skips c b t p → OkDoing c b (doing_next back t) p
  ok_doing c b None None p o = o
  ok_doing c b (Some left) None p o = o
  ok_doing c b back (Some t) p o = o

  ok_goes : (c : Bool) (m : MM) (back : Option (List ℕ)) (x : Next PL) (p : List (ℕ × Plain)) → OkNext k on σ φ skips c x p → OkM c (goes_on m back x) p
  ok_goes c m back x p o = ok_doing c x.books back x.task p o

  -- what an event gives of the arm, whether it closes it, and that it opens no other of its number
  abbrev pub new_in : E → List (ℕ × Plain)
  new_in (On slot (Ran place order r) saved) = new_by k on σ φ skips false slot order.cmd r
  new_in e = []

  abbrev pub over_in : E → Bool
  over_in (On slot (Ran place order r) saved) = ends_by k on σ φ skips false slot order.cmd
  over_in e = false

  abbrev pub NotOpens : E → Type 0
  NotOpens (On slot (Ran place order r) saved) = nat_eq slot σ ≡ true → NotOpened k on σ φ skips false r.said
  NotOpens e = Unit {0}

  abbrev pub Res : Bool → List (ℕ × Plain) → List (ℕ × Plain) → List (ℕ × Plain) → Bool → MM → Type 0
  Res c p new sent over n = ((q : List (ℕ × Plain)) × (p ++ new ≡ sent ++ q) × OkM c n q × (over ≡ false) × (c ≡ false → new ≡ [])) ⊎ ((over ≡ true) × (sent ≡ []) × OkM false n [])

  keeps : (c : Bool) (n x : MM) (p : List (ℕ × Plain)) → n ≡ x → OkM c x p → Res c p [] [] false n
  keeps c n x p e o = subst (λ z. Res c p [] [] false z) (sym e) (inl (p, append-nil p, o, refl, λ _. refl))

  at_doing : (c : Bool) (m : MM) (d : Doing PL) (p : List (ℕ × Plain)) → m.doing ≡ d → OkM c m p → OkDoing c m.books d p
  at_doing c m d p e o = subst (λ z. OkDoing c m.books z p) e o

  module _ (well : PlansMind k on) where
    out_res : (c : Bool) (m n : MM) (back : Option (List ℕ)) (x : Next PL) (p new : List (ℕ × Plain)) (over : Bool) → n ≡ goes_on m back x → Out k on σ φ skips c new over x p → Res c p new [] over n
    out_res c m n back x p new over e o = subst (λ z. Res c p new [] over z) (sym e) (elim o [
      | inl h ↦ inl (p ++ new, refl, ok_goes c m back x (p ++ new) h.0, h.1, h.2)
      | inr h ↦ inr (h.0, refl, ok_goes false m back x [] h.1)
    ])

    nothing_new : (b : Bool) → cond {A = List (ℕ × Plain)} b [] [] ≡ []
    nothing_new true = refl
    nothing_new false = refl

    pub step_ok : (c : Bool) (m n : MM) (e : E) (p : List (ℕ × Plain)) → OkM c m p → Step k m e n → NotOpens e → Res c p (new_in e) (told_by σ φ skips e) (over_in e) n
    step_ok c m n Turn p o s h = keeps c n _ p s.1 (at_doing c m Rest p s.0 o)
    step_ok c m n Visit p o s h = keeps c n _ p s.3 (ok_goes c m (Some s.1) (visit k m.books s.0) p (ok_visit k on σ φ skips c m.books s.0 p (at_doing c m (Visits (s.0 ∷ s.1)) p s.2 o)))
    step_ok c m n (Greeted true) p o s h = elim s.2 [
      | inl g ↦ keeps c n _ p g.4 (at_doing c m (Visits []) p s.0 o)
      | inr g ↦ keeps c n _ p g.4 tt
    ]
    step_ok c m n (Greeted false) p o s h = elim s.2 [ inl g ↦ keeps c n _ p g.4 tt | inr g ↦ keeps c n _ p g.4 tt ]
    step_ok c m n (Login true) p o s h = elim s.2 [
      | inl g ↦ keeps c n _ p g.5 (at_doing c m (Visits []) p s.0 o)
      | inr r ↦ elim r [ inl g ↦ keeps c n _ p g.4 (at_doing c m (Visits []) p s.0 o) | inr g ↦ keeps c n _ p g.3 tt ]
    ]
    step_ok c m n (Login false) p o s h = elim s.2 [ inl g ↦ keeps c n _ p g.5 tt | inr r ↦ elim r [ inl g ↦ keeps c n _ p g.4 tt | inr g ↦ keeps c n _ p g.3 tt ] ]
    step_ok c m n (Cast bytes) p o s h = keeps c n _ p s.2 (at_doing c m (Visits []) p s.0 o)
    step_ok c m n (Begin frame is_read) p o s h = keeps c n _ p s.5 (ok_goes c (record m { held = s.0 }) None (takes_up k m.books frame.token frame.body is_read) p (ok_takes_up k on σ φ skips c well m.books frame.token frame.body is_read p (at_doing c m (Visits []) p s.1 o)))
    step_ok c m n (Heard bytes) p o s h = keeps c n _ p s.2 (at_doing c m (Visits []) p s.0.0 o)
    step_ok c m n (Lost bytes) p o s h = keeps c n _ p s.2 tt
    step_ok c m n Quiet p o s h = keeps c n _ p s.1 (at_doing c m (Visits []) p s.0.0 o)
    step_ok c m n Finish p o s h = keeps c n _ p s.1 tt
    step_ok c m n Broken p o s h = keeps c n _ p s.1 tt
    step_ok c m n (Long len) p o s h = keeps c n _ p s.3 tt
    step_ok c m n Wear p o s h = keeps c n _ p s.1 tt
    step_ok c m n Poor p o s h = keeps c n _ p s.1 tt
    step_ok c m n (On slot (Ran place order r) saved) p o s h = elim s [
      | inl t ↦ out_res c m n t.back (ran k m.books t.task slot order.cmd r saved) p (new_by k on σ φ skips false slot order.cmd r) (ends_by k on σ φ skips false slot order.cmd) t.goes
          (ok_ran k on σ φ skips c well m.books t.task slot order r saved p (at_doing c m (Busy t.back t.task) p t.doing o) t.runs h)
      | inr t ↦ (let none : new_by k on σ φ skips false slot order.cmd r ≡ [] = ap (λ (z : Order). new_by k on σ φ skips false slot z.cmd r) t.1 ∙ nothing_new (nat_eq slot σ) in
          let gone : (q : List (ℕ × Plain)) (d : Bool) → OkM d n q = λ q d. subst (λ z. OkM d z q) (sym t.2.goes) tt in
          elim (which (ends_by k on σ φ skips false slot order.cmd)) [
            | inl u ↦ inr (u, refl, gone [] false)
            | inr u ↦ inl (p ++ new_by k on σ φ skips false slot order.cmd r, refl, gone (p ++ new_by k on σ φ skips false slot order.cmd r) c, u, λ _. none)
          ])
    ]
    step_ok c m n (On slot (Looked place question look) saved) p o s h = keeps c n _ p s.goes (ok_goes c m s.back (found_more k m.books s.task (SawSlot slot look)) p (ok_found k on σ φ skips c well m.books s.task (SawSlot slot look) m.books p refl tt _ s.asks (at_doing c m (Busy s.back s.task) p s.doing o)))
    step_ok c m n (On slot (Denied place) saved) p o s h = elim s [
      | inl t ↦ keeps c n _ p t.goes (ok_goes c m t.back (denied m.books t.task slot t.order.cmd) p (ok_denied k on σ φ skips c m.books t.task slot t.order.cmd p (at_doing c m (Busy t.back t.task) p t.doing o)))
      | inr u ↦ elim u [
        | inl t ↦ keeps c n _ p t.goes (ok_goes c m t.back (wanted m.books t.task) p (ok_wanted k on σ φ skips c m.books t.task p (at_doing c m (Busy t.back t.task) p t.doing o)))
        | inr t ↦ keeps c n _ p t.1.goes tt
      ]
    ]
    step_ok c m n (OnNames (Ran place cmd r)) p o s h = keeps c n _ p s.goes (ok_goes c m s.back (found_more k (saw_names (r.place) m.books) s.task (ChangedNames (r.place) r)) p (ok_found k on σ φ skips c well m.books s.task (ChangedNames (r.place) r) (saw_names (r.place) m.books) p refl tt _ s.asks (at_doing c m (Busy s.back s.task) p s.doing o)))
    step_ok c m n (OnNames (Looked place question names)) p o s h = keeps c n _ p s.goes (ok_goes c m s.back (found_more k (saw_names place m.books) s.task (SawNames place names)) p (ok_found k on σ φ skips c well m.books s.task (SawNames place names) (saw_names place m.books) p refl tt _ s.asks (at_doing c m (Busy s.back s.task) p s.doing o)))
    step_ok c m n (OnNames (Denied place)) p o s h = elim s [
      | inl t ↦ keeps c n _ p t.goes (ok_goes c m t.back (wanted m.books t.task) p (ok_wanted k on σ φ skips c m.books t.task p (at_doing c m (Busy t.back t.task) p t.doing o)))
      | inr u ↦ keeps c n _ p u.1.goes (ok_goes c m u.1.back (wanted m.books u.1.task) p (ok_wanted k on σ φ skips c m.books u.1.task p (at_doing c m (Busy u.1.back u.1.task) p u.1.doing o)))
    ]
    step_ok c m n (Clock moment) p o s h = keeps c n _ p s.goes (ok_goes c m s.back (found_more k m.books s.task (Clocked moment)) p (ok_found k on σ φ skips c well m.books s.task (Clocked moment) m.books p refl tt _ s.asks (at_doing c m (Busy s.back s.task) p s.doing o)))
    step_ok c m n (Dice bytes) p o s h = keeps c n _ p s.goes (ok_goes c m s.back (found_more k m.books s.task (Rolled bytes)) p (ok_found k on σ φ skips c well m.books s.task (Rolled bytes) m.books p refl tt _ s.asks (at_doing c m (Busy s.back s.task) p s.doing o)))
    step_ok c m n Come p o s h = keeps c n _ p s.goes (ok_goes c m s.back (comes_to k m.books s.token (batch_size k s.plan) s.found s.arms s.to) p
        (ok_comes k on σ φ skips c well m.books s.token s.plan s.noreply s.count s.found s.arms (batch_size k s.plan) p s.to (at_doing c m (Busy s.back (Planning s.token s.plan s.noreply s.count s.found s.arms)) p s.doing o) s.ends))
    step_ok c m n (Say token a true) p o s h =
        let t = at_doing c m (Busy s.back (Telling token a s.kept s.lose s.after)) p s.doing o in
        subst (λ z. Res c p [] (told_in σ φ skips a) false z) (sym s.goes)
        (inl (t.rest, append-nil p ∙ t.said, ok_goes c m s.back (told token s.kept s.after) t.rest (ok_told k on σ φ skips c m.books token a s.kept s.lose s.after p t), refl, λ _. refl))
    step_ok c m n (Say token a false) p o s h = keeps c n _ p s.goes tt
    step_ok c m n Want p o s h = keeps c n _ p s.goes (ok_goes c m s.back (wanted m.books s.task) p (ok_wanted k on σ φ skips c m.books s.task p (at_doing c m (Busy s.back s.task) p s.doing o)))

    pub nils : (u v : List (ℕ × Plain)) → u ++ v ≡ [] → (u ≡ []) × (v ≡ [])
    nils [] v h = (refl, h)
    nils (y ∷ u) v h = absurd (let z : y ∷ (u ++ v) ≡ [] = h in cc)

    -- where no feed has the arm, nothing of it is sent
    pub dead : (m n : MM) (es : List E) → Run k m es n → AllByRecursion NotOpens es → OkM false m [] → OkM false n [] × (all_told σ φ skips es ≡ [])
    dead m n [] r h o = (subst (λ z. OkM false z []) (sym r) o, refl)
    dead m n (e ∷ es) r h o = elim (step_ok false m r.0 e [] o r.1 h.0) [
      | inl x ↦ (let z = nils (told_by σ φ skips e) x.0 (sym x.1 ∙ x.4 refl) in
          let q = dead r.0 n es r.2 h.1 (subst (λ y. OkM false r.0 y) z.1 x.2) in
          (q.0, (λ i. z.0 i ++ q.1 i)))
      | inr x ↦ (let q = dead r.0 n es r.2 h.1 x.2 in (q.0, (λ i. x.1 i ++ q.1 i)))
    ]

    -- the Takes of an event and of those after it
    pub takings_step : (e : E) (es : List E) → all_taken skips (takings φ (known_on σ (e ∷ es))) ≡ cond (over_in e) [] (new_in e ++ all_taken skips (takings φ (known_on σ es)))
    takings_step (On slot (Ran place order r) saved) es =
        split (nat_eq slot σ) (λ b. all_taken skips (takings φ (map known_act (cond b (Ran place order r ∷ []) [] ++ acts_on σ es))) ≡ cond (b && is_end φ (known_cmd order.cmd)) [] (cond b (all_taken skips (taking_by φ (known_cmd order.cmd) r)) [] ++ all_taken skips (takings φ (known_on σ es))))
        (λ _. split (is_end φ (known_cmd order.cmd)) (λ d. all_taken skips (cond d [] (taking_by φ (known_cmd order.cmd) r ++ takings φ (known_on σ es))) ≡ cond d [] (all_taken skips (taking_by φ (known_cmd order.cmd) r) ++ all_taken skips (takings φ (known_on σ es))))
        (λ _. refl) (λ _. flat_map-append (λ (t : Taking Summary Plain). taken_in skips t.said) (taking_by φ (known_cmd order.cmd) r) (takings φ (known_on σ es))))
        (λ _. refl)
    takings_step (On slot (Looked place question look) saved) es = split (nat_eq slot σ) (λ b. all_taken skips (takings φ (map known_act (cond b (Looked place question look ∷ []) [] ++ acts_on σ es))) ≡ all_taken skips (takings φ (known_on σ es))) (λ _. refl) (λ _. refl)
    takings_step (On slot (Denied place) saved) es = split (nat_eq slot σ) (λ b. all_taken skips (takings φ (map known_act (cond b (Denied place ∷ []) [] ++ acts_on σ es))) ≡ all_taken skips (takings φ (known_on σ es))) (λ _. refl) (λ _. refl)
    takings_step Turn es = refl
    takings_step Visit es = refl
    takings_step (Greeted w) es = refl
    takings_step (Login w) es = refl
    takings_step (Cast bytes) es = refl
    takings_step (Begin frame is_read) es = refl
    takings_step (Heard bytes) es = refl
    takings_step (Lost bytes) es = refl
    takings_step Quiet es = refl
    takings_step Finish es = refl
    takings_step Broken es = refl
    takings_step (Long len) es = refl
    takings_step Wear es = refl
    takings_step Poor es = refl
    takings_step (OnNames a) es = refl
    takings_step (Clock moment) es = refl
    takings_step (Dice bytes) es = refl
    takings_step Come es = refl
    takings_step (Say token a w) es = refl
    takings_step Want es = refl

    -- where one feed has the arm, what is sent from here on, and what isn't, is what was left and what its Takes give
    pub live : (m n : MM) (es : List E) (p : List (ℕ × Plain)) → Run k m es n → AllByRecursion NotOpens es → OkM true m p → (unsent : List (ℕ × Plain)) × (all_told σ φ skips es ++ unsent ≡ p ++ all_taken skips (takings φ (known_on σ es)))
    live m n [] p r h o = (p, sym (append-nil p))
    live m n (e ∷ es) p r h o =
        let later : List (ℕ × Plain) = all_taken skips (takings φ (known_on σ es)) in
        elim (step_ok true m r.0 e p o r.1 h.0) [
          | inl x ↦ (let q = live r.0 n es x.0 r.2 h.1 x.2 in (
            q.0,
            append_assoc (told_by σ φ skips e) (all_told σ φ skips es) q.0 ∙ ap (λ z. told_by σ φ skips e ++ z) q.1 ∙ sym (append_assoc (told_by σ φ skips e) x.0 later) ∙ ap (λ z. z ++ later) (sym x.1)
                ∙ append_assoc p (new_in e) later ∙ ap (λ z. p ++ z) (sym (takings_step e es ∙ ap (λ b. cond b [] (new_in e ++ later)) x.3)),
          ))
          | inr x ↦ (let q = dead r.0 n es r.2 h.1 x.2 in
              (p, (λ i. (x.1 i ++ q.1 i) ++ p) ∙ sym (append-nil p) ∙ ap (λ z. p ++ z) (sym (takings_step e es ∙ ap (λ b. cond b [] (new_in e ++ later)) x.0))))
        ]

    -- the feed is opened
    pub opens : (m n : MM) (place : ℕ) (order : Order) (r : Told) (saved : Saved) (request : FeedSpec) (opening : List Plain) → order.cmd ≡ cmds.Subscribe request → r.said ≡ said.Opened φ opening → Step k m (On σ (Ran place order r) saved) n → OkM false m [] → OkM true n []
    opens m n place order r saved request opening a b (inl t) o = subst (λ z. OkM true z []) (sym t.goes) (ok_goes true m t.back (ran k m.books t.task σ order.cmd r saved) [] (by_task t.task t.runs (at_doing false m (Busy t.back t.task) [] t.doing o)))
      where
        no_take : (feed max : ℕ) → order ≡ take_order feed max → ⊥
        no_take feed max e = absurd (let z : cmds.Take feed max ≡ cmds.Subscribe request = sym (ap (λ (w : Order). w.cmd) e) ∙ a in cc)

        no_close : (feed : ℕ) → order ≡ close_order feed → ⊥
        no_close feed e = absurd (let z : cmds.Unsubscribe feed ≡ cmds.Subscribe request = sym (ap (λ (w : Order). w.cmd) e) ∙ a in cc)

        clean : F k on σ φ skips false m.books [] → Clean k on σ φ skips true m.books
        clean (inl h) = h
        clean (inr h) = absurd (true≢false (sym h.0))

        by_task : (t : Task PL) → Runs k m.books t σ order → OkTask k on σ φ skips false m.books t [] → OkNext k on σ φ skips true (ran k m.books t σ order.cmd r saved) []
        by_task (Planning token plan noreply count found arms) e o =
            ((well.runs plan noreply count found arms σ order r saved o.0 e).1, o.1, inr (refl, elim o.2 [ inl h ↦ clean h.1 | inr h ↦ h.1 ], refl))
        by_task (Visiting token [] points) e o = absurd e
        by_task (Visiting token (arm ∷ arms) points) e o = absurd (no_take arm.feed e.0.batch e.3)
        by_task (Telling token x kept lose after) e o = absurd e
        by_task (Closing token [] firm x) e o = absurd e
        by_task (Closing token (arm ∷ arms) firm x) e o = absurd (no_close arm.feed e.1)
    opens m n place order r saved request opening a b (inr t) o = absurd (let z : cmds.Unsubscribe t.0.feed ≡ cmds.Subscribe request = sym (ap (λ (w : Order). w.cmd) t.1) ∙ a in cc)

    -- two parts of a run
    pub parts : (m n : MM) (xs ys : List E) → Run k m (xs ++ ys) n → (x : MM) × Run k m xs x × Run k x ys n
    parts m n [] ys r = (m, refl, r)
    parts m n (x ∷ xs) ys r = let q = parts r.0 n xs ys r.2 in (q.0, (r.0, r.1, q.1), q.2)

    -- From where a session opened a feed, what it sent of its changes is a front of what its Takes gave.
    pub front : (final : MM) (before after : List E) (place : ℕ) (order : Order) (r : Told) (saved : Saved) (request : FeedSpec) (opening : List Plain) → order.cmd ≡ cmds.Subscribe request → r.said ≡ said.Opened φ opening →
        AllByRecursion NotOpens before → AllByRecursion NotOpens after → Run k fresh (before ++ On σ (Ran place order r) saved ∷ after) final → (unsent : List (ℕ × Plain)) × (all_told σ φ skips after ++ unsent ≡ all_taken skips (takings φ (known_on σ after)))
    front final before after place order r saved request opening a b h g run =
        let q = parts fresh final before (On σ (Ran place order r) saved ∷ after) run in
        let d = dead fresh q.0 before q.1 h (inl tt) in
        live q.2.0 final after [] q.2.2 g (opens q.0 q.2.0 place order r saved request opening a b q.2.1 d.0)
