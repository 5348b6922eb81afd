-- What a session sent of one arm of a feed is a front of what its Takes gave.
use Rattle.std.proofs.Common.{◌≡◌, ◌⊎◌, inl, inr, ℕ, ◌-◌, Bool, true, false, true≢false, cond, not, ◌&&◌, ◌||◌, List, [], ◌∷◌, ◌++◌, length, take, drop, Option, Some, None, refl, sym, ap, subst, ◌∙◌, append_assoc, append-nil}
use Rattle.std.specs.Prelude.{nat_eq}
use Rattle.std.proofs.lemmas.Bool.{eqb-true, eq-eqb}
use Rattle.reql_table_spec.specs.declared.command.Cmd.{Cmd}
use Rattle.reql_table_spec.specs.declared.command.Cmd.TheVariants as cmds
use Rattle.reql_table_spec.specs.declared.command.Order.{Order}
use Rattle.reql_datum.specs.declared.point.Point.{Point}
use Rattle.reql_table_machine_spec.specs.declared.command.Said.{Said}
use Rattle.reql_table_machine_spec.specs.declared.command.Said.TheVariants as said
use Rattle.reql_table_spec.specs.Replies.{Answered as Told}
use Rattle.reql_table_spec.specs.Machine.{known_cmd}
use Rattle.reql_table_spec.specs.declared.reply.Saved.{Saved}
use Rattle.reql_write_spec.specs.declared.command.Summary.{Summary}
use Rattle.reql_answer.specs.Body.{Stamped}
use Rattle.reql_answer.specs.declared.error.ErrorType.TheVariants as errors
use Rattle.reql_datum.specs.Plain.{Plain}
use Rattle.reql_feed_spec.specs.Shown.{skip_item}
use Rattle.reql_table_machine_spec.specs.Fed.{taking_by, is_end}
use Rattle.reql_table_machine_spec.proofs.Tracking.{split}
use Rattle.reql_session_spec.specs.Requests.{Arm, Skip, Shown, Move, Found, RanSlot, Answer, Failed, Batch, point, put_point, stamped}
use Rattle.reql_session_spec.specs.Books.{Open, Books, feed_of, closed, with_left, waits}
use Rattle.reql_session_spec.specs.Tasks.{Talk, Drops, Settled, Task, Planning, Visiting, Telling, Closing, Next, done, at, close, tell, next_arm, batch_of, gone, others, took_said, took, arms_said, arms_after, ran, found_more, Runs, Asks, skipped_item, change_items, is_empty, fitted}
use Rattle.reql_session_spec.specs.Bodies.{full}
use Rattle.reql_session_spec.specs.Minding.{has_arm, Minds, IsOther, PlansMind}
use Rattle.reql_session_spec.specs.Explained.{skip_taken, taken_in, all_taken}
use Rattle.reql_session_spec.proofs.Shelves.{or_false, which, has, has_append, has_filter, of, of_append, of_cut, IsClean, Cleans, Others, LiveIn, Fine, found_token, found_clean, live_found, apart_clean, clean_closed, live_closed, fine_closed, closes_it, clean_left, live_apart, live_left}
use Rattle.reql_session_spec.proofs.Tellings.{F, Clean, OkTask, OkNext, NoSent, visiting_fine, closing_on, own_token, nils, no_more_sent, ok_tell, ok_close}

pub and_false : (x : Bool) → (x && false) ≡ false
and_false true = refl
and_false false = refl

module _ (σ φ : ℕ) where
  abbrev pub is_it : Arm → Bool
  is_it arm = nat_eq arm.slot σ && nat_eq arm.feed φ

module _ (σ φ : ℕ) (skips : Bool) where
  of_changes : (n : ℕ) (arm : Arm) (items : List (ℕ × Plain)) → of σ φ skips (change_items n arm items) ≡ cond (is_it σ φ arm) items []
  of_changes n arm [] = split (is_it σ φ arm) (λ b. (let none : List (ℕ × Plain) = [] in none ≡ cond b none none)) (λ _. refl) (λ _. refl)
  of_changes n arm (p ∷ ps) = ap (λ z. cond (is_it σ φ arm) (p ∷ []) [] ++ z) (of_changes n arm ps) ∙ split (is_it σ φ arm) (λ b. cond b (p ∷ []) [] ++ cond b ps [] ≡ cond b (p ∷ ps) []) (λ _. refl) (λ _. refl)

  none_of : (i s : Bool) → cond {A = List (ℕ × Plain)} i (cond s [] []) [] ≡ []
  none_of true true = refl
  none_of true false = refl
  none_of false s = refl

  of_skip : (n : ℕ) (arm : Arm) (skipped last : ℕ) → of σ φ skips (skipped_item n arm skipped last) ≡ cond (is_it σ φ arm) (skip_taken skips skipped last) []
  of_skip n arm skipped last =
      let y : ℕ × Plain = (last, skip_item skipped) in
      split (nat_eq skipped 0)
      (λ b. of σ φ skips (cond b [] (record { at = n; arm = arm; sort = Skip; stamp = last; item = skip_item skipped } ∷ [])) ≡ cond (is_it σ φ arm) (cond skips (cond b [] (y ∷ [])) []) [])
      (λ _. sym (none_of (is_it σ φ arm) skips))
      (λ _. split skips (λ s. cond s (cond (is_it σ φ arm) (y ∷ []) []) [] ++ [] ≡ cond (is_it σ φ arm) (cond s (y ∷ []) []) [])
      (λ _. split (is_it σ φ arm) (λ i. cond i (y ∷ []) [] ++ [] ≡ cond i (y ∷ []) []) (λ _. refl) (λ _. refl))
      (λ _. sym (none_of (is_it σ φ arm) false)))

  -- what a batch gives of the arm, printed
  of_batch : (n : ℕ) (arm : Arm) (skipped last : ℕ) (items : List (ℕ × Plain)) → of σ φ skips (skipped_item n arm skipped last ++ change_items n arm items) ≡ cond (is_it σ φ arm) (skip_taken skips skipped last ++ items) []
  of_batch n arm skipped last items =
      of_append σ φ skips (skipped_item n arm skipped last) (change_items n arm items) ∙ (λ i. of_skip n arm skipped last i ++ of_changes n arm items i)
      ∙ split (is_it σ φ arm) (λ b. cond b (skip_taken skips skipped last) [] ++ cond b items [] ≡ cond b (skip_taken skips skipped last ++ items) []) (λ _. refl) (λ _. refl)

  empty_of : (xs : List Shown) → is_empty xs ≡ true → xs ≡ []
  empty_of [] e = refl
  empty_of (x ∷ xs) e = absurd (true≢false (sym e))

module _ {PL : Type 0} (k : Talk PL) (on : PL → Bool → ℕ → List Found → List Arm → Type 0) (σ φ : ℕ) (skips c : Bool) where
  abbrev Ok : Next PL → List (ℕ × Plain) → Type 0
  Ok x p = OkNext k on σ φ skips c x p

  -- what a Take gives of the arm
  abbrev pub new_of : Arm → Said Summary Plain → List (ℕ × Plain)
  new_of arm s = cond (is_it σ φ arm) (taken_in skips s) []

  -- the feed that is visited: it has the arm, and nothing of it is left, or it has not
  pub record Visited (b : Books) (arm : Arm) (arms : List Arm) (f : Open) (p : List (ℕ × Plain)) : Type 0 where
    pub fine : F k on σ φ skips c b p
    pub found : feed_of f.token b.feeds ≡ Some f
    pub state : ((c ≡ true) × (l : LiveIn σ φ skips b.feeds p) × (l.feed ≡ f) × (p ≡ [])) ⊎ ((is_it σ φ arm ≡ false) × (has σ φ arms ≡ false) × IsClean σ φ skips f × (Clean k on σ φ skips c b ⊎ ((c ≡ true) × (l : LiveIn σ φ skips b.feeds p) × (nat_eq l.feed.token f.token ≡ false))))

  pub visited : (b : Books) (token : ℕ) (arm : Arm) (arms : List Arm) (points : List Point) (f : Open) (p : List (ℕ × Plain)) → feed_of token b.feeds ≡ Some f → OkTask k on σ φ skips c b (Visiting token (arm ∷ arms) points) p → Visited b arm arms f p
  visited b token arm arms points f p e o =
      let same : f.token ≡ token = eqb-true f.token token (found_token σ φ skips token b.feeds f e) in
      record {
        fine = visiting_fine k on σ φ skips c b token (arm ∷ arms) points p o;
        found = own_token k on σ φ skips c token b f e;
        state = elim o [
          | inl h ↦ (let z = or_false (is_it σ φ arm) (has σ φ arms) h.1 in inr (z.0, z.1, found_clean σ φ skips token b.feeds f e h.0, inl h.0))
          | inr h ↦ elim h.2 [
            | inl q ↦ inl (h.0, h.1, live_found σ φ skips token b.feeds p f e h.1 q.0, q.1)
            | inr q ↦ (let z = or_false (is_it σ φ arm) (has σ φ arms) q.1 in
                inr (z.0, z.1, apart_clean σ φ skips token b.feeds p f e h.1 q.0, inr (h.0, h.1, ap (λ t. nat_eq h.1.feed.token t) same ∙ q.0)))
          ]
        ];
      }

  pub ok_batch : (b : Books) (arm : Arm) (arms : List Arm) (f : Open) (p : List (ℕ × Plain)) (n : ℕ) (points : List Point) (skipped last : ℕ) (items : List (ℕ × Plain)) → Visited b arm arms f p → Ok (batch_of k b f n arm points skipped last items) (p ++ cond (is_it σ φ arm) (skip_taken skips skipped last ++ items) [])
  ok_batch b arm arms f p n points skipped last items v =
      let skip : List Shown = skipped_item n arm skipped last in
      let changes : List Shown = change_items n arm items in
      let front : List Shown = take f.batch changes in
      let back : List Shown = drop f.batch changes in
      let new : List (ℕ × Plain) = cond (is_it σ φ arm) (skip_taken skips skipped last ++ items) [] in
      let all : of σ φ skips (skip ++ changes) ≡ new = of_batch σ φ skips n arm skipped last items in
      let parted : new ≡ of σ φ skips (skip ++ front) ++ of σ φ skips back =
      sym all ∙ of_append σ φ skips skip changes ∙ ap (λ z. of σ φ skips skip ++ z) (sym (of_cut σ φ skips f.batch changes))
      ∙ sym (append_assoc (of σ φ skips skip) (of σ φ skips front) (of σ φ skips back)) ∙ ap (λ z. z ++ of σ φ skips back) (sym (of_append σ φ skips skip front)) in
      let s : Stamped = stamped b.names points in
      split (is_empty (skip ++ changes)) (λ x. is_empty (skip ++ changes) ≡ x → Ok (cond x (done (waits f.token b)) (tell k b f.token (Batch f.notes (skip ++ front) (Some s)) (with_left f.token back b) f.arms (Some f.arms))) (p ++ new))
      (λ _ e. let none : new ≡ [] = sym all ∙ ap (of σ φ skips) (empty_of σ φ skips (skip ++ changes) e) in
      subst (λ z. F k on σ φ skips c b z) (sym (ap (λ z. p ++ z) none ∙ append-nil p)) v.fine)
      (λ _ e. elim v.state [
        | inl h ↦ (let own : nat_eq h.1.feed.token f.token ≡ true = ap (λ (z : Open). nat_eq z.token f.token) h.2 ∙ eq-eqb f.token f.token refl in
            let shut : Clean k on σ φ skips c (closed f.token b) = live_closed σ φ skips f.token b.feeds p h.1 own in
            ok_tell k on σ φ skips c b f.token (Batch f.notes (skip ++ front) (Some s)) (with_left f.token back b) f.arms (Some f.arms) (p ++ new) (inl shut) (λ _. shut)
            (record {
              rest = of σ φ skips back;
              said = ap (λ z. z ++ new) h.3 ∙ parted;
              next = inr (h.0, live_left σ φ skips f.token back b.feeds p (of σ φ skips back) h.1 own refl);
              lost = (inl shut, λ _. shut);
              then_so = tt;
            }))
        | inr h ↦ (let none : new ≡ [] = ap (λ x. cond x (skip_taken skips skipped last ++ items) []) h.0 in
            let q : p ++ new ≡ p = ap (λ z. p ++ z) none ∙ append-nil p in
            let parts = nils k on σ φ skips c (of σ φ skips (skip ++ front)) (of σ φ skips back) (sym parted ∙ none) in
            let shuts : has σ φ f.arms ≡ true → Clean k on σ φ skips c (closed f.token b) = λ t. closes_it σ φ skips c f.token b.feeds p f v.found t v.fine in
            subst (λ z. Ok (tell k b f.token (Batch f.notes (skip ++ front) (Some s)) (with_left f.token back b) f.arms (Some f.arms)) z) (sym q)
            (ok_tell k on σ φ skips c b f.token (Batch f.notes (skip ++ front) (Some s)) (with_left f.token back b) f.arms (Some f.arms) p (fine_closed σ φ skips c f.token b.feeds p v.fine) shuts
            (record {
              rest = p;
              said = ap (λ z. z ++ p) (sym parts.0);
              next = elim h.3 [ inl cl ↦ inl (clean_left σ φ skips f.token back b.feeds parts.1 cl) | inr lv ↦ inr (lv.0, live_apart σ φ skips f.token back b.feeds p parts.1 lv.1 lv.2) ];
              lost = (fine_closed σ φ skips c f.token b.feeds p v.fine, shuts);
              then_so = tt;
            })))
      ])
      refl

  ok_next_arm : (b : Books) (arm : Arm) (arms : List Arm) (f : Open) (p : List (ℕ × Plain)) (points : List Point) → Visited b arm arms f p → Ok (next_arm k b f.token arms points) p
  ok_next_arm b arm [] f p points v = v.fine
  ok_next_arm b arm (a ∷ arms) f p points v = elim v.state [
    | inl h ↦ inr (h.0, h.1, inl (ap (λ (z : Open). nat_eq z.token f.token) h.2 ∙ eq-eqb f.token f.token refl, h.3))
    | inr h ↦ elim h.3 [ inl cl ↦ inl (cl, h.1) | inr lv ↦ inr (lv.0, lv.1, inr (lv.2, h.1)) ]
  ]

  ok_gone : (b : Books) (arm : Arm) (arms : List Arm) (f : Open) (p : List (ℕ × Plain)) (points : List Point) (left : List Arm) → (has σ φ left ≡ true → has σ φ f.arms ≡ true) → Visited b arm arms f p → Ok (gone k b f arm points left) p
  ok_gone b arm arms f p points [] h v = record {
    rest = p;
    said = ap (λ z. z ++ p) (sym (no_more_sent k on σ φ skips c (Failed errors.OpFailed arm.dropped (Some (stamped b.names points))) refl));
    next = fine_closed σ φ skips c f.token b.feeds p v.fine;
    lost = v.fine;
    then_so = tt;
  }
  ok_gone b arm arms f p points (a ∷ left) h v = ok_close k on σ φ skips c b f.token (a ∷ left) Drops (Some (fitted k (Failed errors.OpFailed arm.dropped (Some (stamped b.names points))))) p v.fine (λ t. closes_it σ φ skips c f.token b.feeds p f v.found (h t) v.fine) (no_more_sent k on σ φ skips c (Failed errors.OpFailed arm.dropped (Some (stamped b.names points))) refl)

  nothing_new : (b : Bool) → cond {A = List (ℕ × Plain)} b [] [] ≡ []
  nothing_new true = refl
  nothing_new false = refl

  same_p : (arm : Arm) (p : List (ℕ × Plain)) → p ++ cond (is_it σ φ arm) [] [] ≡ p
  same_p arm p = ap (λ z. p ++ z) (nothing_new (is_it σ φ arm)) ∙ append-nil p

  pub ok_took : (b : Books) (arm : Arm) (arms : List Arm) (f : Open) (p : List (ℕ × Plain)) (points : List Point) (s : Said Summary Plain) → Visited b arm arms f p → Ok (took_said k b f arm arms points s) (p ++ new_of arm s)
  ok_took b arm arms f p points (said.Batch skipped last items) v = ok_batch b arm arms f p (length f.arms - length (arm ∷ arms)) points skipped last items v
  ok_took b arm arms f p points said.Gone v = subst (λ z. Ok (gone k b f arm points (others arm f.arms)) z) (sym (same_p arm p)) (ok_gone b arm arms f p points (others arm f.arms) (has_filter σ φ (λ a. not (nat_eq a.slot arm.slot) || not (nat_eq a.feed arm.feed)) f.arms) v)
  ok_took b arm arms f p points (said.HistoryFull count) v = subst (λ z. Ok (took_said k b f arm arms points (said.HistoryFull count)) z) (sym (same_p arm p))
      (ok_close k on σ φ skips c (closed f.token b) f.token f.arms Settled (Some (fitted k (Failed errors.ResourceLimit full None))) p (fine_closed σ φ skips c f.token b.feeds p v.fine) (λ t. clean_closed σ φ skips f.token (closed f.token b).feeds (closes_it σ φ skips c f.token b.feeds p f v.found t v.fine)) (no_more_sent k on σ φ skips c (Failed errors.ResourceLimit full None) refl))
  ok_took b arm arms f p points (said.Done m) v = subst (λ z. Ok (next_arm k b f.token arms points) z) (sym (same_p arm p)) (ok_next_arm b arm arms f p points v)
  ok_took b arm arms f p points said.Changed v = subst (λ z. Ok (next_arm k b f.token arms points) z) (sym (same_p arm p)) (ok_next_arm b arm arms f p points v)
  ok_took b arm arms f p points said.IndexExists v = subst (λ z. Ok (next_arm k b f.token arms points) z) (sym (same_p arm p)) (ok_next_arm b arm arms f p points v)
  ok_took b arm arms f p points said.IndexMissing v = subst (λ z. Ok (next_arm k b f.token arms points) z) (sym (same_p arm p)) (ok_next_arm b arm arms f p points v)
  ok_took b arm arms f p points (said.Opened n o) v = subst (λ z. Ok (next_arm k b f.token arms points) z) (sym (same_p arm p)) (ok_next_arm b arm arms f p points v)
  ok_took b arm arms f p points (said.FeedsFull n) v = subst (λ z. Ok (next_arm k b f.token arms points) z) (sym (same_p arm p)) (ok_next_arm b arm arms f p points v)
  ok_took b arm arms f p points said.Nothing v = subst (λ z. Ok (next_arm k b f.token arms points) z) (sym (same_p arm p)) (ok_next_arm b arm arms f p points v)
  ok_took b arm arms f p points (said.FeedUnknown n) v = subst (λ z. Ok (next_arm k b f.token arms points) z) (sym (same_p arm p)) (ok_next_arm b arm arms f p points v)
  ok_took b arm arms f p points said.Closed v = subst (λ z. Ok (next_arm k b f.token arms points) z) (sym (same_p arm p)) (ok_next_arm b arm arms f p points v)

  -- a command that a task ran: what it gave of the arm, and whether it closed it
  abbrev pub new_by : ℕ → Cmd → Told → List (ℕ × Plain)
  new_by slot cmd r = cond (nat_eq slot σ) (all_taken skips (taking_by φ (known_cmd cmd) r)) []

  abbrev pub ends_by : ℕ → Cmd → Bool
  ends_by slot cmd = nat_eq slot σ && is_end φ (known_cmd cmd)

  -- a command's answer opens no feed of this number on the slot
  abbrev pub NotOpened : Said Summary Plain → Type 0
  NotOpened (said.Opened feed opening) = nat_eq feed φ ≡ false
  NotOpened other = Unit {0}

  -- the session goes on with what was given and not yet sent, or the arm is closed
  abbrev pub Out : List (ℕ × Plain) → Bool → Next PL → List (ℕ × Plain) → Type 0
  Out new over x p = (Ok x (p ++ new) × (over ≡ false) × (c ≡ false → new ≡ [])) ⊎ ((over ≡ true) × OkNext k on σ φ skips false x [])

  -- nothing new
  goes : (x : Next PL) (p new : List (ℕ × Plain)) (over : Bool) → new ≡ [] → over ≡ false → Ok x p → Out new over x p
  goes x p new over n o h = inl (subst (λ z. Ok x z) (sym (ap (λ z. p ++ z) n ∙ append-nil p)) h, o, λ _. n)

  not_open : (slot : ℕ) (s : Said Summary Plain) (arms : List Arm) → (nat_eq slot σ ≡ true → NotOpened s) → has σ φ (arms_said slot s arms) ≡ has σ φ arms
  not_open slot (said.Opened feed opening) arms h = has_append σ φ arms (record { slot = slot; feed = feed; dropped = [] } ∷ []) ∙ ap (λ z. has σ φ arms || z) (none (nat_eq slot σ) h) ∙ or_nil (has σ φ arms)
    where
      none : (b : Bool) → (b ≡ true → nat_eq feed φ ≡ false) → ((b && nat_eq feed φ) || false) ≡ false
      none true g = ap (λ z. z || false) (g refl)
      none false g = refl

      or_nil : (b : Bool) → (b || false) ≡ b
      or_nil true = refl
      or_nil false = refl
  not_open slot (said.Done m) arms h = refl
  not_open slot (said.HistoryFull n) arms h = refl
  not_open slot said.Changed arms h = refl
  not_open slot said.IndexExists arms h = refl
  not_open slot said.IndexMissing arms h = refl
  not_open slot (said.FeedsFull n) arms h = refl
  not_open slot (said.Batch a b d) arms h = refl
  not_open slot said.Nothing arms h = refl
  not_open slot (said.FeedUnknown n) arms h = refl
  not_open slot said.Closed arms h = refl
  not_open slot said.Gone arms h = refl

  -- the other arms have not this one
  not_others : (arms : List Arm) → has σ φ (others (record { slot = σ; feed = φ; dropped = [] }) arms) ≡ false
  not_others [] = refl
  not_others (a ∷ arms) = elim (which (nat_eq a.slot σ)) [
    | inl t ↦ elim (which (nat_eq a.feed φ)) [
      | inl u ↦ ap (λ b. has σ φ (cond b (a ∷ others (record { slot = σ; feed = φ; dropped = [] }) arms) (others (record { slot = σ; feed = φ; dropped = [] }) arms))) (λ i. not (t i) || not (u i)) ∙ not_others arms
      | inr u ↦ ap (λ b. has σ φ (cond b (a ∷ others (record { slot = σ; feed = φ; dropped = [] }) arms) (others (record { slot = σ; feed = φ; dropped = [] }) arms))) (λ i. not (t i) || not (u i))
          ∙ (λ i. (t i && u i) || not_others arms i)
    ]
    | inr t ↦ ap (λ b. has σ φ (cond b (a ∷ others (record { slot = σ; feed = φ; dropped = [] }) arms) (others (record { slot = σ; feed = φ; dropped = [] }) arms))) (λ i. not (t i) || not (nat_eq a.feed φ))
        ∙ (λ i. (t i && nat_eq a.feed φ) || not_others arms i)
  ]

  module _ (well : PlansMind k on) where
    -- a plan's command, other than to close
    plan_runs : (b : Books) (token : ℕ) (plan : PL) (noreply : Bool) (count : ℕ) (found : List Found) (arms more : List Arm) (slot : ℕ) (r : Told) (saved : Saved) (p : List (ℕ × Plain)) →
        on plan noreply count (found ++ RanSlot slot r saved ∷ []) more → (has σ φ arms ≡ false → has σ φ more ≡ false) → OkTask k on σ φ skips c b (Planning token plan noreply count found arms) p → OkTask k on σ φ skips c b (Planning token plan noreply count (found ++ RanSlot slot r saved ∷ []) more) p
    plan_runs b token plan noreply count found arms more slot r saved p w h o = (w, o.1, elim o.2 [ inl x ↦ inl (h x.0, x.1) | inr x ↦ inr x ])

    ok_plan : (b : Books) (token : ℕ) (plan : PL) (noreply : Bool) (count : ℕ) (found : List Found) (arms : List Arm) (slot : ℕ) (cmd : Cmd) (r : Told) (saved : Saved) (p : List (ℕ × Plain)) →
        Minds arms slot cmd → on plan noreply count (found ++ RanSlot slot r saved ∷ []) (arms_after slot cmd r.said arms) → (nat_eq slot σ ≡ true → NotOpened r.said) → OkTask k on σ φ skips c b (Planning token plan noreply count found arms) p →
        Out (new_by slot cmd r) (ends_by slot cmd) (at b (Planning token plan noreply count (found ++ RanSlot slot r saved ∷ []) (arms_after slot cmd r.said arms))) p
    ok_plan b token plan noreply count found arms slot (cmds.Take feed max) r saved p m w h o = absurd m
    ok_plan b token plan noreply count found arms slot (cmds.Write x) r saved p m w h o = goes (at b (Planning token plan noreply count (found ++ RanSlot slot r saved ∷ []) (arms_said slot r.said arms))) p (new_by slot (cmds.Write x) r) (ends_by slot (cmds.Write x)) (nothing_new (nat_eq slot σ)) (and_false (nat_eq slot σ)) (plan_runs b token plan noreply count found arms (arms_said slot r.said arms) slot r saved p w (λ e. not_open slot r.said arms h ∙ e) o)
    ok_plan b token plan noreply count found arms slot (cmds.IndexCreate x) r saved p m w h o = goes (at b (Planning token plan noreply count (found ++ RanSlot slot r saved ∷ []) (arms_said slot r.said arms))) p (new_by slot (cmds.IndexCreate x) r) (ends_by slot (cmds.IndexCreate x)) (nothing_new (nat_eq slot σ)) (and_false (nat_eq slot σ)) (plan_runs b token plan noreply count found arms (arms_said slot r.said arms) slot r saved p w (λ e. not_open slot r.said arms h ∙ e) o)
    ok_plan b token plan noreply count found arms slot (cmds.IndexDrop x) r saved p m w h o = goes (at b (Planning token plan noreply count (found ++ RanSlot slot r saved ∷ []) (arms_said slot r.said arms))) p (new_by slot (cmds.IndexDrop x) r) (ends_by slot (cmds.IndexDrop x)) (nothing_new (nat_eq slot σ)) (and_false (nat_eq slot σ)) (plan_runs b token plan noreply count found arms (arms_said slot r.said arms) slot r saved p w (λ e. not_open slot r.said arms h ∙ e) o)
    ok_plan b token plan noreply count found arms slot (cmds.IndexRename x y z) r saved p m w h o = goes (at b (Planning token plan noreply count (found ++ RanSlot slot r saved ∷ []) (arms_said slot r.said arms))) p (new_by slot (cmds.IndexRename x y z) r) (ends_by slot (cmds.IndexRename x y z)) (nothing_new (nat_eq slot σ)) (and_false (nat_eq slot σ)) (plan_runs b token plan noreply count found arms (arms_said slot r.said arms) slot r saved p w (λ e. not_open slot r.said arms h ∙ e) o)
    ok_plan b token plan noreply count found arms slot (cmds.Subscribe x) r saved p m w h o = goes (at b (Planning token plan noreply count (found ++ RanSlot slot r saved ∷ []) (arms_said slot r.said arms))) p (new_by slot (cmds.Subscribe x) r) (ends_by slot (cmds.Subscribe x)) (nothing_new (nat_eq slot σ)) (and_false (nat_eq slot σ)) (plan_runs b token plan noreply count found arms (arms_said slot r.said arms) slot r saved p w (λ e. not_open slot r.said arms h ∙ e) o)
    ok_plan b token plan noreply count found arms slot cmds.Shut r saved p m w h o = goes (at b (Planning token plan noreply count (found ++ RanSlot slot r saved ∷ []) (arms_said slot r.said arms))) p (new_by slot cmds.Shut r) (ends_by slot cmds.Shut) (nothing_new (nat_eq slot σ)) (and_false (nat_eq slot σ)) (plan_runs b token plan noreply count found arms (arms_said slot r.said arms) slot r saved p w (λ e. not_open slot r.said arms h ∙ e) o)
    ok_plan b token plan noreply count found arms slot cmds.Sync r saved p m w h o = goes (at b (Planning token plan noreply count (found ++ RanSlot slot r saved ∷ []) (arms_said slot r.said arms))) p (new_by slot cmds.Sync r) (ends_by slot cmds.Sync) (nothing_new (nat_eq slot σ)) (and_false (nat_eq slot σ)) (plan_runs b token plan noreply count found arms (arms_said slot r.said arms) slot r saved p w (λ e. not_open slot r.said arms h ∙ e) o)
    ok_plan b token plan noreply count found arms slot (cmds.Unsubscribe feed) r saved p m w h o =
        let fewer_arms : List Arm = others (record { slot = slot; feed = feed; dropped = [] }) arms in
        let fewer : has σ φ arms ≡ false → has σ φ (others (record { slot = slot; feed = feed; dropped = [] }) arms) ≡ false =
        λ e. elim (which (has σ φ (others (record { slot = slot; feed = feed; dropped = [] }) arms))) [
          | inl t ↦ absurd (true≢false (sym (has_filter σ φ (λ a. not (nat_eq a.slot slot) || not (nat_eq a.feed feed)) arms t) ∙ e))
          | inr t ↦ t
        ] in
        elim (which (nat_eq slot σ && nat_eq feed φ)) [
          | inr t ↦ goes (at b (Planning token plan noreply count (found ++ RanSlot slot r saved ∷ []) fewer_arms)) p (new_by slot (cmds.Unsubscribe feed) r) (ends_by slot (cmds.Unsubscribe feed)) (nothing_new (nat_eq slot σ)) t (plan_runs b token plan noreply count found arms fewer_arms slot r saved p w fewer o)
          | inl t ↦ (let z = both (nat_eq slot σ) (nat_eq feed φ) t in
              let s : slot ≡ σ = eqb-true slot σ z.0 in
              let f : feed ≡ φ = eqb-true feed φ z.1 in
              elim o.2 [
                | inl x ↦ absurd (true≢false (sym m ∙ (λ i. has_arm (s i) (f i) arms) ∙ x.0))
                | inr x ↦ inr (t, (w, o.1, inl ((λ i. has σ φ (others (record { slot = s i; feed = f i; dropped = [] }) arms)) ∙ not_others arms, inl x.1)))
              ])
        ]
      where
        both : (x y : Bool) → (x && y) ≡ true → (x ≡ true) × (y ≡ true)
        both true y e = (refl, e)
        both false y e = absurd (true≢false (sym e))

    taken : (slot : ℕ) (arm : Arm) (max : ℕ) (r : Told) → slot ≡ arm.slot → new_by slot (cmds.Take arm.feed max) r ≡ new_of arm r.said
    taken slot arm max r e = ap (λ z. new_by z (cmds.Take arm.feed max) r) e ∙
        split (nat_eq arm.slot σ) (λ x. cond x (all_taken skips (taking_by φ (known_cmd (cmds.Take arm.feed max)) r)) [] ≡ cond (x && nat_eq arm.feed φ) (taken_in skips r.said) [])
        (λ _. split (nat_eq arm.feed φ) (λ y. all_taken skips (cond y (record { max = max; stamp = r.stamp; said = r.said } ∷ []) []) ≡ cond y (taken_in skips r.said) []) (λ _. append-nil (taken_in skips r.said)) (λ _. refl)) (λ _. refl)

    pub ok_ran : (b : Books) (t : Task PL) (slot : ℕ) (order : Order) (r : Told) (saved : Saved) (p : List (ℕ × Plain)) → OkTask k on σ φ skips c b t p → Runs k b t slot order → (nat_eq slot σ ≡ true → NotOpened r.said) →
        Out (new_by slot order.cmd r) (ends_by slot order.cmd) (ran k b t slot order.cmd r saved) p
    ok_ran b (Planning token plan noreply count found arms) slot order r saved p o e h =
        let w = well.runs plan noreply count found arms slot order r saved o.0 e in
        ok_plan b token plan noreply count found arms slot order.cmd r saved p w.0 w.1 h o
    ok_ran b (Visiting token [] points) slot order r saved p o e h = absurd e
    ok_ran b (Visiting token (arm ∷ arms) points) slot order r saved p o e h =
        let f : Open = e.0 in
        let v : Visited b arm arms f p = visited b token arm arms points f p e.1 o in
        let pts : List Point = put_point (point arm.slot r.place r.stamp) points in
        let new : new_by slot order.cmd r ≡ new_of arm r.said = ap (λ (z : Order). new_by slot z.cmd r) e.3 ∙ taken slot arm f.batch r e.2 in
        let over : ends_by slot order.cmd ≡ false = ap (λ (z : Order). ends_by slot z.cmd) e.3 ∙ and_false (nat_eq slot σ) in
        let was : Ok (took k b token arm arms points r (feed_of token b.feeds)) (p ++ new_of arm r.said) = subst (λ z. Ok (took k b token arm arms points r z) (p ++ new_of arm r.said)) (sym e.1) (ok_took b arm arms f p pts r.said v) in
        inl (
          subst (λ z. Ok (took k b token arm arms points r (feed_of token b.feeds)) (p ++ z)) (sym new) was,
          over,
          λ cf. new ∙ elim v.state [ inl x ↦ absurd (true≢false (sym x.0 ∙ cf)) | inr x ↦ ap (λ y. cond y (taken_in skips r.said) []) x.0 ],
        )
    ok_ran b (Telling token a kept lose after) slot order r saved p o e h = absurd e
    ok_ran b (Closing token [] firm a) slot order r saved p o e h = absurd e
    ok_ran b (Closing token (arm ∷ arms) firm a) slot order r saved p o e h =
        let new : new_by slot order.cmd r ≡ [] = ap (λ (z : Order). new_by slot z.cmd r) e.1 ∙ nothing_new (nat_eq slot σ) in
        let over : ends_by slot order.cmd ≡ is_it σ φ arm = (λ i. nat_eq (e.0 i) σ && is_end φ (known_cmd (e.1 i).cmd)) in
        elim (which (is_it σ φ arm)) [
          | inr t ↦ goes (close (closed token b) token arms Settled a) p (new_by slot order.cmd r) (ends_by slot order.cmd) new (over ∙ t) (closing_on k on σ φ skips c b token arm arms firm a p o)
          | inl t ↦ (let shut : Clean k on σ φ skips c (closed token b) = o.1 (ap (λ x. x || has σ φ arms) t) in
              inr (over ∙ t, ok_close k on σ φ skips false (closed token b) token arms Settled a [] (inl shut) (λ _. clean_closed σ φ skips token (closed token b).feeds shut) (still a o.2)))
        ]
      where
        still : (a : Option Answer) → NoSent k on σ φ skips c a → NoSent k on σ φ skips false a
        still None n = tt
        still (Some a) n = n

    pub ok_found : (b : Books) (t : Task PL) (x : Found) (u : Books) (p : List (ℕ × Plain)) → u.feeds ≡ b.feeds → IsOther x → (move : Move) → Asks k t move → OkTask k on σ φ skips c b t p → Ok (found_more k u t x) p
    ok_found b (Planning token plan noreply count found arms) x u p e other move as_it o = (
      well.finds plan noreply count found arms x o.0 other,
      subst (Others σ φ skips token) (sym e) o.1,
      elim o.2 [ inl h ↦ inl (h.0, subst (λ z. Fine σ φ skips c z p) (sym e) h.1) | inr h ↦ inr (h.0, subst (Cleans σ φ skips) (sym e) h.1, h.2) ],
    )
    ok_found b (Visiting token arms points) x u p e other move as_it o = absurd as_it
    ok_found b (Telling token a kept lose after) x u p e other move as_it o = absurd as_it
    ok_found b (Closing token arms firm a) x u p e other move as_it o = absurd as_it
