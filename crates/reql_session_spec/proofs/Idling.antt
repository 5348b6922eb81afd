-- In a hall that explains a session nothing was there for a CONTINUE that waits.
use Rattle.std.proofs.Common.{◌≡◌, ◌⊎◌, ◌+◌, inl, inr, ℕ, Bool, true, false, true≢false, cond, ◌&&◌, map, List, [], ◌∷◌, ◌++◌, length, take, refl, sym, ap, subst, ◌∙◌, arith, append_assoc, append-nil, length-append}
use Rattle.std.specs.List.{AllByRecursion}
use Rattle.std.specs.Prelude.{nat_eq}
use Rattle.std.proofs.lemmas.Grind.{flat_map-append}
use Rattle.std.proofs.lemmas.Bool.{eqb-true, eq-eqb}
use Rattle.std.proofs.lemmas.List.{map-append}
use Rattle.reql_datum.specs.Plain.{Plain}
use Rattle.reql_write_spec.specs.declared.command.Summary.{Summary}
use Rattle.reql_shared.specs.History.{own}
use Rattle.reql_shared.specs.Machine.{replay}
use Rattle.reql_shared.specs.Acts.{Ran, Looked, Denied}
use Rattle.reql_shared.specs.Parts.{Part}
use Rattle.reql_shared.specs.Plays.{Woven}
use Rattle.reql_shared.proofs.Weaving.{replay_append}
use Rattle.reql_table_machine_spec.specs.Fed.{is_end}
use Rattle.reql_table_machine_spec.specs.declared.command.Said.{Said}
use Rattle.reql_table_machine_spec.specs.declared.command.Said.TheVariants as said
use Rattle.reql_table_machine_spec.proofs.Items.{all_append, all_right}
use Rattle.reql_table_machine_spec.proofs.Numbers.{number_in, OpensFrom, apart, numbers_rise}
use Rattle.reql_table_machine_spec.proofs.Tracking.{split}
use Rattle.reql_table_spec.specs.Laws.{History, Done, known_act}
use Rattle.reql_table_spec.specs.Machine.{State, machine, known_cmd, known_order, known_entry}
use Rattle.reql_table_spec.specs.Replies.{Answered as Told}
use Rattle.reql_table_spec.specs.Table.{feeding}
use Rattle.reql_table_spec.specs.declared.command.Cmd.{Cmd}
use Rattle.reql_table_spec.specs.declared.command.Cmd.TheVariants as cmds
use Rattle.reql_table_spec.specs.declared.command.FeedSpec.{FeedSpec}
use Rattle.reql_table_spec.specs.declared.command.Order.{Order}
use Rattle.reql_table_spec.specs.declared.reply.Saved.{Saved}
use Rattle.reql_table_spec.proofs.Numbers.{index_opens_none}
use Rattle.reql_table_spec.proofs.Weaves.{woven_known}
use Rattle.reql_session_spec.specs.Requests.{Arm, Found}
use Rattle.reql_session_spec.specs.Tasks.{Talk, Task, Planning, Visiting, Telling, Closing, Runs, take_order}
use Rattle.reql_session_spec.specs.Minding.{PlansMind}
use Rattle.reql_session_spec.specs.Session.{Event, On, Mach, fresh, Step, Run, acts_of, acts_on}
use Rattle.reql_session_spec.specs.Explained.{DeskShare, DeskSeen, Life, ExplainedBy, told_by}
use Rattle.reql_session_spec.specs.Waiting.{IsNothing, IsBare, FoundNothing, HasNothing, table_at, IsIdle, NothingWasThere}
use Rattle.reql_session_spec.proofs.Shelves.{or_false, which, has}
use Rattle.reql_session_spec.proofs.Tellings.{OkTask}
use Rattle.reql_session_spec.proofs.Sendings.{NotOpened, is_it}
use Rattle.reql_session_spec.proofs.Fronts.{known_on, OkDoing, OkM, over_in, NotOpens, step_ok, nils, opens, parts}
use Rattle.reql_session_spec.proofs.Feeding.{all_not}
use Rattle.reql_session_spec.proofs.Staying.{is_subscribe, took_nothing, stands, Keeps, stays_open}
use Rattle.reql_session_spec.proofs.Waiting.{waits_on}

abbrev feed_in : Cmd → ℕ
feed_in (cmds.Take feed max) = feed
feed_in other = 0

-- ---- one arm, through a run: while a session has it, it was opened and not closed
module _ {PL : Type 0} (k : Talk PL) (on : PL → Bool → ℕ → List Found → List Arm → Type 0) (well : PlansMind k on) (σ φ : ℕ) where
  record IsOpening (e : Event) : Type 0 where
    place : ℕ
    order : Order
    told : Told
    kept : Saved
    opening : List Plain
    is : e ≡ On σ (Ran place order told) kept
    says : told.said ≡ said.Opened φ opening

  said_which : (s : Said Summary Plain) → NotOpened k on σ φ false false s ⊎ ((opening : List Plain) × (s ≡ said.Opened φ opening))
  said_which (said.Opened f o) = elim (which (nat_eq f φ)) [ inl t ↦ inr (o, λ i. said.Opened (eqb-true f φ t i) o) | inr u ↦ inl u ]
  said_which other = inl tt

  decide : (e : Event) → NotOpens k on σ φ false e ⊎ IsOpening e
  decide (On slot (Ran place order r) saved) = elim (which (nat_eq slot σ)) [
    | inr f ↦ inl (λ t. absurd (true≢false (sym t ∙ f)))
    | inl t ↦ elim (said_which r.said) [
      | inl n ↦ inl (λ _. n)
      | inr o ↦ inr (record { place = place; order = order; told = r; kept = saved; opening = o.0; is = λ i. On (eqb-true slot σ t i) (Ran place order r) saved; says = o.1 })
    ]
  ]
  decide other = inl tt

  -- these events opened the arm, and did not close it since
  record Alive (es : List Event) : Type 0 where
    before : List Event
    after : List Event
    place : ℕ
    order : Order
    told : Told
    kept : Saved
    opening : List Plain
    events : es ≡ before ++ On σ (Ran place order told) kept ∷ after
    says : told.said ≡ said.Opened φ opening
    lasts : AllByRecursion (λ (e : Event). over_in k on σ φ false e ≡ false) after

  abbrev Standing : List Event → Mach PL → Type 0
  Standing es m = OkM k on σ φ false false m [] ⊎ ((p : List (ℕ × Plain)) × OkM k on σ φ false true m p × Alive es)

  abbrev Subscribes : Event → Type 0
  Subscribes e = (i : IsOpening e) → (spec : FeedSpec) × (i.order.cmd ≡ cmds.Subscribe spec)

  step : (es : List Event) (m n : Mach PL) (e : Event) → Step k m e n → Subscribes e → (Alive es → IsOpening e → ⊥) → Standing es m → Standing (es ++ e ∷ []) n
  step es m n e s sub single (inl o) = elim (decide e) [
    | inl h ↦ elim (step_ok k on σ φ false well false m n e [] o s h) [
      | inl x ↦ (let z = nils k on σ φ false well (told_by σ φ false e) x.0 (sym x.1 ∙ x.4 refl) in inl (subst (λ y. OkM k on σ φ false false n y) z.1 x.2))
      | inr x ↦ inl x.2
    ]
    | inr i ↦ (let b = sub i in
        inr (
          [],
          opens k on σ φ false well m n i.place i.order i.told i.kept b.0 i.opening b.1 i.says (subst (λ z. Step k m z n) i.is s) o,
          record { before = es; after = []; place = i.place; order = i.order; told = i.told; kept = i.kept; opening = i.opening; events = ap (λ z. es ++ z ∷ []) i.is; says = i.says; lasts = tt },
        ))
  ]
  step es m n e s sub single (inr a) = elim (decide e) [
    | inl h ↦ elim (step_ok k on σ φ false well true m n e a.0 a.1 s h) [
      | inl x ↦ inr (
        x.0,
        x.2,
        record {
          before = a.2.before;
          after = a.2.after ++ e ∷ [];
          place = a.2.place;
          order = a.2.order;
          told = a.2.told;
          kept = a.2.kept;
          opening = a.2.opening;
          events = ap (λ z. z ++ e ∷ []) a.2.events ∙ append_assoc a.2.before (On σ (Ran a.2.place a.2.order a.2.told) a.2.kept ∷ a.2.after) (e ∷ []);
          says = a.2.says;
          lasts = all_append (λ (e : Event). over_in k on σ φ false e ≡ false) a.2.after (e ∷ []) a.2.lasts (x.3, tt);
        },
      )
      | inr x ↦ inl x.2
    ]
    | inr i ↦ absurd (single a.2 i)
  ]

  module _ (whole : List Event) (sub : (a b : List Event) (e : Event) → whole ≡ a ++ e ∷ b → Subscribes e) (single : (a b : List Event) (e : Event) → whole ≡ a ++ e ∷ b → Alive a → IsOpening e → ⊥) where
    stands_on : (done es more : List Event) (m n : Mach PL) → whole ≡ done ++ (es ++ more) → Run k m es n → Standing done m → Standing (done ++ es) n
    stands_on done [] more m n w r s = subst (λ z. Standing z n) (sym (append-nil done)) (subst (Standing done) (sym r) s)
    stands_on done (e ∷ es) more m n w r s = subst (λ z. Standing z n) (append_assoc done (e ∷ []) es)
        (stands_on (done ++ e ∷ []) es more r.0 n (w ∙ sym (append_assoc done (e ∷ []) (es ++ more))) r.2 (step done m r.0 e r.1 (sub done (es ++ more) e w) (single done (es ++ more) e w) s))

  -- who takes from the arm has it
  taken : (es : List Event) (m n : Mach PL) (place max : ℕ) (told : Told) (kept : Saved) → Step k m (On σ (Ran place (take_order φ max) told) kept) n → Standing es m → Alive es
  taken es m n place max told kept s (inr a) = a.2
  taken es m n place max told kept s (inl o) = elim s [
    | inl t ↦ by_task t.task t.runs (subst (λ z. OkDoing k on σ φ false false m.books z []) t.doing o)
    | inr a ↦ absurd (let z : cmds.Take φ max ≡ cmds.Unsubscribe a.0.feed = ap (λ (w : Order). w.cmd) a.1 in cc)
  ]
    where
      both : (x y : Bool) → x ≡ true → y ≡ true → (x && y) ≡ true
      both x y h g = λ i. h i && g i

      by_task : (t : Task PL) → Runs k m.books t σ (take_order φ max) → OkTask k on σ φ false false m.books t [] → Alive es
      by_task (Planning token plan noreply count found arms) e o = absurd ((well.runs plan noreply count found arms σ (take_order φ max) told kept o.0 e).0)
      by_task (Visiting token [] points) e o = absurd e
      by_task (Visiting token (arm ∷ arms) points) e o =
          let it : is_it σ φ arm ≡ true = both (nat_eq arm.slot σ) (nat_eq arm.feed φ) (eq-eqb arm.slot σ (sym e.2)) (eq-eqb arm.feed φ (sym (ap (λ (w : Order). feed_in w.cmd) e.3))) in
          elim o [
            | inl h ↦ absurd (true≢false (sym it ∙ (or_false (is_it σ φ arm) (has σ φ arms) h.1).0))
            | inr h ↦ absurd (true≢false (sym h.0))
          ]
      by_task (Telling token x kept lose after) e o = absurd e
      by_task (Closing token [] firm x) e o = absurd e
      by_task (Closing token (arm ∷ arms) firm x) e o = absurd (let z : cmds.Take φ max ≡ cmds.Unsubscribe arm.feed = ap (λ (w : Order). w.cmd) e.1 in cc)

  -- what does not close the arm keeps it
  keeps_one : (by : ℕ) (e : Event) → over_in k on σ φ false e ≡ false → AllByRecursion (Keeps by φ) (acts_of σ e)
  keeps_one by (On slot (Ran place order r) saved) h = split (nat_eq slot σ) (λ b. (b && is_end φ (known_cmd order.cmd)) ≡ false → AllByRecursion (Keeps by φ) (cond b (Ran place order r ∷ []) [])) (λ _ g. (g, tt)) (λ _ g. tt) h
  keeps_one by (On slot (Looked place question look) saved) h = split (nat_eq slot σ) (λ b. AllByRecursion (Keeps by φ) (cond b (Looked place question look ∷ []) [])) (λ _. (tt, tt)) (λ _. tt)
  keeps_one by (On slot (Denied place) saved) h = split (nat_eq slot σ) (λ b. AllByRecursion (Keeps by φ) (cond b (Denied place ∷ []) [])) (λ _. (tt, tt)) (λ _. tt)
  keeps_one by other h = tt

  keeps_all : (by : ℕ) (es : List Event) → AllByRecursion (λ (e : Event). over_in k on σ φ false e ≡ false) es → AllByRecursion (Keeps by φ) (acts_on σ es)
  keeps_all by [] h = tt
  keeps_all by (e ∷ es) h = all_append (Keeps by φ) (acts_of σ e) (acts_on σ es) (keeps_one by e h.0) (keeps_all by es h.1)

-- ---- in a hall
acts_at : (slot : ℕ) (a b : List Event) (act : Done) (kept : Saved) → acts_on slot (a ++ On slot act kept ∷ b) ≡ acts_on slot a ++ act ∷ acts_on slot b
acts_at slot a b act kept = flat_map-append (acts_of slot) a (On slot act kept ∷ b) ∙ ap (λ c. acts_on slot a ++ (cond c (act ∷ []) [] ++ acts_on slot b)) (eq-eqb slot slot refl)

-- a list of events that is cut at two of them
cut_twice : (all a b before after : List Event) (first second : Event) → all ≡ a ++ second ∷ b → a ≡ before ++ first ∷ after → all ≡ before ++ first ∷ (after ++ second ∷ b)
cut_twice all a b before after first second h g = h ∙ (ap (λ z. z ++ second ∷ b) g ∙ append_assoc before (first ∷ after) (second ∷ b))

acts_twice : (slot : ℕ) (all before after b : List Event) (first second : Done) (kept held : Saved) → all ≡ before ++ On slot first kept ∷ (after ++ On slot second held ∷ b) → acts_on slot all ≡ acts_on slot before ++ first ∷ (acts_on slot after ++ second ∷ acts_on slot b)
acts_twice slot all before after b first second kept held h =
    ap (acts_on slot) h ∙ (acts_at slot before (after ++ On slot second held ∷ b) first kept ∙ ap (λ z. acts_on slot before ++ first ∷ z) (acts_at slot after b second held))

take_front : {A : Type 0} (xs ys : List A) → take (length xs) (xs ++ ys) ≡ xs
take_front [] ys = refl
take_front (x ∷ xs) ys = ap (λ z. x ∷ z) (take_front xs ys)

-- the state at a place of a history that goes on
state_at : (start : State) (before front rest later seen : History) (during : History) (place : ℕ) → seen ≡ (before ++ during) ++ later → during ≡ front ++ rest → place ≡ length before + length front
    → replay machine start (take place seen) ≡ replay machine (replay machine start before) front
state_at start before front rest later seen during place h g p =
    let at : place ≡ length (before ++ front) = omega (arith, p, length-append before front) in
    let all : seen ≡ (before ++ front) ++ (rest ++ later) = h ∙ (ap (λ z. (before ++ z) ++ later) g ∙ (ap (λ z. z ++ later) (sym (append_assoc before front rest)) ∙ append_assoc (before ++ front) rest later)) in
    ap (λ z. replay machine start z) ((λ i. take (at i) (all i)) ∙ take_front (before ++ front) (rest ++ later)) ∙ replay_append machine start before front

module _ {PL : Type 0} (k : Talk PL) (on : PL → Bool → ℕ → List Found → List Arm → Type 0) (well : PlansMind k on) (seen : DeskSeen) (share : DeskShare) (life : Life) (x : ExplainedBy k seen share life) where
  abbrev whole : List Event
  whole = x.explained.events

  abbrev part : ℕ → Part Order State
  part slot = share.slots slot

  abbrev now : ℕ → State
  now slot = replay machine (part slot).start (part slot).before

  woven_at : (slot : ℕ) (acts : List Done) → acts_on slot whole ≡ acts → Woven machine (now slot) (part slot).number (length (part slot).before) acts (part slot).during
  woven_at slot acts h = subst (λ z. Woven machine (now slot) (part slot).number (length (part slot).before) z (part slot).during) h (x.explained.slots slot).woven

  module _ (σ φ : ℕ) where
    subscribes : (a b : List Event) (e : Event) → whole ≡ a ++ e ∷ b → Subscribes k on well σ φ e
    subscribes a b e h i =
        let acts : acts_on σ whole ≡ acts_on σ a ++ Ran i.place i.order i.told ∷ acts_on σ b = ap (acts_on σ) (h ∙ ap (λ z. a ++ z ∷ b) i.is) ∙ acts_at σ a b (Ran i.place i.order i.told) i.kept in
        let r = stands (part σ).number (acts_on σ a) (acts_on σ b) i.place i.order i.told (now σ) (length (part σ).before) (part σ).during (woven_at σ (acts_on σ a ++ Ran i.place i.order i.told ∷ acts_on σ b) acts) in
        let s : State = replay machine (now σ) r.front in
        is_subscribe s.most (part σ).number φ s.table i.order.cmd (ap (λ (z : Told). number_in z.said) (sym r.answered) ∙ ap (λ z. number_in z) i.says)

    -- no other event opens the arm
    apart_from : (before rest : List Event) (place : ℕ) (order : Order) (told : Told) (kept : Saved) (opening : List Plain) → told.said ≡ said.Opened φ opening → whole ≡ before ++ On σ (Ran place order told) kept ∷ rest → AllByRecursion (NotOpens k on σ φ false) rest
    apart_from before rest place order told kept opening says h =
        let s : State = now σ in
        let acts : List Done = acts_on σ before ++ Ran place order told ∷ acts_on σ rest in
        let known : map known_act acts ≡ known_on σ before ++ Ran place (known_order order) told ∷ known_on σ rest = map-append known_act (acts_on σ before) (Ran place order told ∷ acts_on σ rest) in
        let woven : Woven machine s (part σ).number (length (part σ).before) acts (part σ).during = woven_at σ acts (ap (acts_on σ) h ∙ acts_at σ before rest (Ran place order told) kept) in
        let rise : OpensFrom s.table.place (map known_act acts) =
        numbers_rise (feeding s.most) index_opens_none (λ es. own (part σ).number es ≡ []) (part σ).number (length (part σ).before) s.table (map known_act acts) (map known_entry (part σ).during) (woven_known s (part σ).number (length (part σ).before) acts (part σ).during woven) in
        let others = apart s.table.place φ (known_on σ before) (known_on σ rest) (Ran place (known_order order) told) (ap (λ z. number_in z) says) (subst (OpensFrom s.table.place) known rise) in
        all_not k on σ φ false rest others.1

    once : (a b : List Event) (e : Event) → whole ≡ a ++ e ∷ b → Alive k on well σ φ a → IsOpening k on well σ φ e → ⊥
    once a b e h v i =
        let first : Event = On σ (Ran v.place v.order v.told) v.kept in
        let none = all_right (NotOpens k on σ φ false) v.after (e ∷ b) (apart_from v.before (v.after ++ e ∷ b) v.place v.order v.told v.kept v.opening v.says (cut_twice whole a b v.before v.after first e h v.events)) in
        let not_it : NotOpens k on σ φ false (On σ (Ran i.place i.order i.told) i.kept) = subst (NotOpens k on σ φ false) i.is none.0 in
        let no_more : NotOpened k on σ φ false false (said.Opened φ i.opening) = subst (NotOpened k on σ φ false false) i.says (not_it (eq-eqb σ σ refl)) in
        true≢false (sym (eq-eqb φ φ refl) ∙ no_more)

    -- a Take of a session is of an arm that it opened, and has not closed
    alive : (a b : List Event) (place max : ℕ) (told : Told) (kept : Saved) → whole ≡ a ++ On σ (Ran place (take_order φ max) told) kept ∷ b → Alive k on well σ φ a
    alive a b place max told kept h =
        let e : Event = On σ (Ran place (take_order φ max) told) kept in
        let q = parts k on σ φ false well fresh x.explained.final a (e ∷ b) (subst (λ z. Run k fresh z x.explained.final) h x.explained.run) in
        let standing = stands_on k on well σ φ whole subscribes once [] a (e ∷ b) fresh q.0 h q.1 (inl (inl tt)) in
        taken k on well σ φ a q.0 q.2.0 place max told kept q.2.1 standing

    -- one that found nothing found a feed that has nothing
    idle_one : (a b : List Event) (place max : ℕ) (told : Told) (kept : Saved) → whole ≡ a ++ On σ (Ran place (take_order φ max) told) kept ∷ b → IsNothing told.said ⊎ IsBare told.said → HasNothing (table_at seen share σ place) (part σ).number φ max
    idle_one a b place max told kept h vain =
        let order : Order = take_order φ max in
        let v = alive a b place max told kept h in
        let acts : List Done = acts_on σ v.before ++ Ran v.place v.order v.told ∷ (acts_on σ v.after ++ Ran place order told ∷ acts_on σ b) in
        let is : acts_on σ whole ≡ acts = acts_twice σ whole v.before v.after b (Ran v.place v.order v.told) (Ran place order told) v.kept kept
        (cut_twice whole a b v.before v.after (On σ (Ran v.place v.order v.told) v.kept) (On σ (Ran place order told) kept) h v.events) in
        let r = stays_open (part σ).number φ (acts_on σ v.before) (acts_on σ v.after) (acts_on σ b) v.place v.order v.told v.opening place order told (now σ) (length (part σ).before) (part σ).during
        v.says (keeps_all k on well σ φ (part σ).number v.after v.lasts) (woven_at σ acts is) in
        let s : State = replay machine (now σ) r.front in
        let had = took_nothing s.most s.table (part σ).number φ max r.so.0 r.so.1 (subst (λ (z : Told). IsNothing z.said ⊎ IsBare z.said) r.answered vain) in
        let there : table_at seen share σ place ≡ s = state_at (part σ).start (part σ).before r.front r.rest (x.lies.slots σ).later (seen.slots σ) (part σ).during place (x.lies.slots σ).whole r.whole r.stands in
        subst (λ z. HasNothing z (part σ).number φ max) (sym there) (record { feed = r.so.0; found = r.so.1; skipped = had.0; none = had.1 })

  idle_all : (max : ℕ) (arms : List Arm) (takes a b : List Event) → whole ≡ a ++ (takes ++ b) → FoundNothing max arms takes → AllByRecursion (IsIdle seen share) takes
  idle_all max [] takes a b h f = subst (AllByRecursion (IsIdle seen share)) (sym f) tt
  idle_all max (arm ∷ arms) takes a b h f =
      let place : ℕ = f.0 in
      let told : Told = f.1 in
      let kept : Saved = f.2 in
      let more : List Event = f.3 in
      let first : Event = On arm.slot (Ran place (take_order arm.feed max) told) kept in
      let is : whole ≡ a ++ first ∷ (more ++ b) = h ∙ ap (λ z. a ++ (z ++ b)) f.4 in
      let vain : IsNothing told.said ⊎ IsBare told.said = elim f.5 [ inl g ↦ inl g.0 | inr g ↦ inr g.0 ] in
      subst (AllByRecursion (IsIdle seen share)) (sym f.4) (
        (arm.feed, max, refl, idle_one arm.slot arm.feed a (more ++ b) place max told kept is vain),
        elim f.5 [
          | inl g ↦ idle_all max arms more (a ++ first ∷ []) b (is ∙ sym (append_assoc a (first ∷ []) (more ++ b))) g.1
          | inr g ↦ subst (AllByRecursion (IsIdle seen share)) (sym g.1) tt
        ],
      )

module _ {PL : Type 0} (k : Talk PL) (on : PL → Bool → ℕ → List Found → List Arm → Type 0) (well : PlansMind k on) where
  -- the Takes of a visit, in all events
  place_of : (all es before visit takes since more between : List Event) (first : Event) → all ≡ es ++ more → es ≡ between ++ since → between ≡ before ++ visit → visit ≡ first ∷ takes → all ≡ (before ++ first ∷ []) ++ (takes ++ (since ++ more))
  place_of all es before visit takes since more between first a b c d =
      a ∙ (ap (λ z. z ++ more) (b ∙ ap (λ z. z ++ since) (c ∙ ap (λ z. before ++ z) d))
      ∙ (append_assoc (before ++ first ∷ takes) since more ∙ (append_assoc before (first ∷ takes) (since ++ more) ∙ sym (append_assoc before (first ∷ []) (takes ++ (since ++ more))))))

  pub nothing_was_there : NothingWasThere k
  nothing_was_there seen share life x es more m h r t w =
      let v = waits_on k es m r t w in
      let a = v.visited.vain in
      record {
        waits = v;
        idle = idle_all k on well seen share life x a.feed.batch a.feed.arms a.takes (v.visited.before ++ a.first ∷ []) (v.since ++ more)
            (place_of x.explained.events es v.visited.before v.visited.visit a.takes v.since more v.before a.first h v.events v.visited.events a.events) a.found;
      }
