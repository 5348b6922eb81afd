-- What was given of one arm of a feed and not yet sent, while a session is at a task.
use Rattle.std.proofs.Common.{◌≡◌, ◌⊎◌, inl, inr, ℕ, Bool, true, false, true≢false, not, cond, ◌&&◌, ◌||◌, List, [], ◌∷◌, ◌++◌, length, take, drop, Option, Some, None, refl, sym, ap, subst, ◌∙◌}
use Rattle.std.specs.Prelude.{nat_eq, nat_lt, nat_le, is_some}
use Rattle.std.proofs.lemmas.Bool.{eqb-true, eq-eqb}
use Rattle.reql_table_spec.specs.declared.command.Cmd.{Cmd}
use Rattle.reql_table_spec.specs.declared.command.Cmd.TheVariants as cmds
use Rattle.reql_datum.specs.declared.point.Point.{Point}
use Rattle.reql_answer.specs.Body.{Stamped}
use Rattle.reql_datum.specs.Plain.{Plain}
use Rattle.reql_table_machine_spec.proofs.Items.{all_take, all_drop}
use Rattle.reql_table_machine_spec.proofs.Tracking.{split}
use Rattle.reql_session_spec.specs.Requests.{Asked, Unreadable, Unplanned, Start, Continue, Stop, NoreplyWait, ServerInfo, Arm, Shown, Answered, Unsent, One, Stream, Feed, Fault, Wanting, Ends, Found, Answer, Client, Compile, Internal, Last, Part, Batch, points_from, stamped}
use Rattle.reql_session_spec.specs.Books.{Cursor, Open, Books, has_token, without, cursor_of, feed_of, is_open, opened, closed, with_rest, with_left, with_cursor, with_feed}
use Rattle.reql_session_spec.specs.Tasks.{Talk, Firm, Stops, Drops, Settled, Task, Planning, Visiting, Telling, Closing, Next, done, at, only_tell, may_tell, close, internal_for, wanted, denied, arms_denied, told, stop_feed, stop, cut, tell, tell_now, comes_to, continue_left, continue_feed, continue_on, visit_feed, visit, refuse, begin, takes_up, is_long, cut_to, fitted, settle}
use Rattle.reql_session_spec.specs.Bodies.{body, in_use, at_wait}
use Rattle.reql_session_spec.specs.Minding.{IsAside, PlansMind}
use Rattle.reql_session_spec.specs.Explained.{told_in}
use Rattle.reql_session_spec.proofs.Shelves.{has_filter, or_false, which, has, of, of_cut, of_aside, IsClean, Cleans, Others, LiveIn, Fine, found_token, which_feed, clean_closed, fine_closed, closes_it, clean_left, live_apart, live_left, fine_more, live_new}

module _ {PL : Type 0} (k : Talk PL) (on : PL → Bool → ℕ → List Found → List Arm → Type 0) (σ φ : ℕ) (skips c : Bool) where
  abbrev pub F : Books → List (ℕ × Plain) → Type 0
  F b p = Fine σ φ skips c b.feeds p

  abbrev pub Clean : Books → Type 0
  Clean b = Cleans σ φ skips b.feeds

  abbrev pub Lost : Books → ℕ → Option (List Arm) → List (ℕ × Plain) → Type 0
  Lost b token None p = F b p
  Lost b token (Some arms) p = F (closed token b) p × (has σ φ arms ≡ true → Clean (closed token b))

  abbrev pub Then : Books → ℕ → Option (List Arm) → Type 0
  Then b token None = Unit {0}
  Then b token (Some arms) = has σ φ arms ≡ true → Clean (closed token b)

  abbrev pub NoSent : Option Answer → Type 0
  NoSent None = Unit {0}
  NoSent (Some a) = told_in σ φ skips a ≡ []

  pub record OkTelling (b : Books) (token : ℕ) (a : Answer) (kept : Books) (lose after : Option (List Arm)) (p : List (ℕ × Plain)) : Type 0 where
    pub rest : List (ℕ × Plain)
    pub said : p ≡ told_in σ φ skips a ++ rest
    pub next : F kept rest
    pub lost : Lost b token lose p
    pub then_so : Then kept token after

  -- of each task: these changes of the arm were given and not yet sent
  abbrev pub OkTask : Books → Task PL → List (ℕ × Plain) → Type 0
  OkTask b (Planning token plan noreply count found arms) p = on plan noreply count found arms × Others σ φ skips token b.feeds × (((has σ φ arms ≡ false) × F b p) ⊎ ((c ≡ true) × Clean b × (p ≡ [])))
  OkTask b (Visiting token arms points) p = (Clean b × (has σ φ arms ≡ false)) ⊎ ((c ≡ true) × (l : LiveIn σ φ skips b.feeds p) × (((nat_eq l.feed.token token ≡ true) × (p ≡ [])) ⊎ ((nat_eq l.feed.token token ≡ false) × (has σ φ arms ≡ false))))
  OkTask b (Telling token a kept lose after) p = OkTelling b token a kept lose after p
  OkTask b (Closing token arms firm a) p = F b p × (has σ φ arms ≡ true → Clean (closed token b)) × NoSent a

  abbrev pub OkOption : Books → Option (Task PL) → List (ℕ × Plain) → Type 0
  OkOption b None p = F b p
  OkOption b (Some t) p = OkTask b t p

  abbrev pub OkNext : Next PL → List (ℕ × Plain) → Type 0
  OkNext x p = OkOption x.books x.task p

  pub no_arm : {A : Type 0} → false ≡ true → A
  no_arm e = absurd (true≢false (sym e))

  pub ok_only : (b : Books) (token : ℕ) (a : Answer) (p : List (ℕ × Plain)) → F b p → told_in σ φ skips a ≡ [] → OkNext (only_tell b token a) p
  ok_only b token a p f n = record { rest = p; said = ap (λ z. z ++ p) (sym n); next = f; lost = f; then_so = tt }

  ok_may : (b : Books) (token : ℕ) (a : Option Answer) (p : List (ℕ × Plain)) → F b p → NoSent a → OkNext (may_tell b token a) p
  ok_may b token None p f n = f
  ok_may b token (Some a) p f n = ok_only b token a p f n

  pub ok_close : (b : Books) (token : ℕ) (arms : List Arm) (firm : Firm) (a : Option Answer) (p : List (ℕ × Plain)) → F b p → (has σ φ arms ≡ true → Clean (closed token b)) → NoSent a → OkNext (close b token arms firm a) p
  ok_close b token [] firm a p f h n = ok_may b token a p f n
  ok_close b token (arm ∷ arms) firm a p f h n = (f, h, n)

  no_internal : (a : Option Answer) → NoSent (internal_for a)
  no_internal None = tt
  no_internal (Some a) = refl

  pub planning_fine : (b : Books) (token : ℕ) (plan : PL) (noreply : Bool) (count : ℕ) (found : List Found) (arms : List Arm) (p : List (ℕ × Plain)) → OkTask b (Planning token plan noreply count found arms) p → F b p
  planning_fine b token plan noreply count found arms p o = elim o.2 [ inl h ↦ h.1 | inr h ↦ inl h.1 ]

  planning_closes : (b : Books) (token : ℕ) (plan : PL) (noreply : Bool) (count : ℕ) (found : List Found) (arms : List Arm) (p : List (ℕ × Plain)) → OkTask b (Planning token plan noreply count found arms) p → has σ φ arms ≡ true → Clean (closed token b)
  planning_closes b token plan noreply count found arms p o t = elim o.2 [ inl h ↦ absurd (true≢false (sym t ∙ h.0)) | inr h ↦ clean_closed σ φ skips token b.feeds h.1 ]

  pub visiting_fine : (b : Books) (token : ℕ) (arms : List Arm) (points : List Point) (p : List (ℕ × Plain)) → OkTask b (Visiting token arms points) p → F b p
  visiting_fine b token arms points p (inl h) = inl h.0
  visiting_fine b token arms points p (inr h) = inr (h.0, h.1)

  pub ok_wanted : (b : Books) (t : Task PL) (p : List (ℕ × Plain)) → OkTask b t p → OkNext (wanted b t) p
  ok_wanted b (Planning token plan noreply count found arms) p o =
      ok_close b token arms Settled (cond noreply None (Some Internal)) p (planning_fine b token plan noreply count found arms p o) (planning_closes b token plan noreply count found arms p o)
      (split noreply (λ x. NoSent (cond x None (Some Internal))) (λ _. tt) (λ _. refl))
  ok_wanted b (Visiting token arms points) p o = ok_only b token Internal p (visiting_fine b token arms points p o) refl
  ok_wanted b (Telling token a kept None after) p o = ok_only b token Internal p o.lost refl
  ok_wanted b (Telling token a kept (Some arms) after) p o = ok_close (closed token b) token arms Settled (Some Internal) p o.lost.0 (λ t. clean_closed σ φ skips token (closed token b).feeds (o.lost.1 t)) refl
  ok_wanted b (Closing token arms Settled a) p o = ok_close b token arms Settled (internal_for a) p o.0 o.1 (no_internal a)
  ok_wanted b (Closing token arms Stops a) p o = ok_only b token Internal p o.0 refl
  ok_wanted b (Closing token arms Drops a) p o = ok_only b token Internal p o.0 refl

  later_arm : (x y : Bool) → y ≡ true → (x || y) ≡ true
  later_arm true y h = refl
  later_arm false y h = h

  pub closing_on : (b : Books) (token : ℕ) (arm : Arm) (arms : List Arm) (firm : Firm) (a : Option Answer) (p : List (ℕ × Plain)) → OkTask b (Closing token (arm ∷ arms) firm a) p → OkNext (close (closed token b) token arms Settled a) p
  closing_on b token arm arms firm a p o = ok_close (closed token b) token arms Settled a p (fine_closed σ φ skips c token b.feeds p o.0)
      (λ t. clean_closed σ φ skips token (closed token b).feeds (o.1 (later_arm (nat_eq arm.slot σ && nat_eq arm.feed φ) (has σ φ arms) t))) o.2

  fewer_arms : (slot : ℕ) (cmd : Cmd) (arms : List Arm) → has σ φ (arms_denied slot cmd arms) ≡ true → has σ φ arms ≡ true
  fewer_arms slot (cmds.Unsubscribe feed) arms h = has_filter σ φ (λ a. not (nat_eq a.slot slot) || not (nat_eq a.feed feed)) arms h
  fewer_arms slot (cmds.Write x) arms h = h
  fewer_arms slot (cmds.IndexCreate x) arms h = h
  fewer_arms slot (cmds.IndexDrop x) arms h = h
  fewer_arms slot (cmds.IndexRename x y z) arms h = h
  fewer_arms slot (cmds.Subscribe x) arms h = h
  fewer_arms slot (cmds.Take x y) arms h = h
  fewer_arms slot cmds.Shut arms h = h
  fewer_arms slot cmds.Sync arms h = h

  pub ok_denied : (b : Books) (t : Task PL) (slot : ℕ) (cmd : Cmd) (p : List (ℕ × Plain)) → OkTask b t p → OkNext (denied b t slot cmd) p
  ok_denied b (Closing token (arm ∷ arms) Stops a) slot cmd p o = ok_only b token Internal p o.0 refl
  ok_denied b (Closing token (arm ∷ arms) Drops a) slot cmd p o = closing_on b token arm arms Drops a p o
  ok_denied b (Closing token (arm ∷ arms) Settled a) slot cmd p o = closing_on b token arm arms Settled a p o
  ok_denied b (Closing token [] firm a) slot cmd p o = ok_wanted b (Closing token [] firm a) p o
  ok_denied b (Planning token plan noreply count found arms) slot cmd p o =
      ok_close b token (arms_denied slot cmd arms) Settled (cond noreply None (Some Internal)) p (planning_fine b token plan noreply count found arms p o)
      (λ h. planning_closes b token plan noreply count found arms p o (fewer_arms slot cmd arms h)) (split noreply (λ x. NoSent (cond x None (Some Internal))) (λ _. tt) (λ _. refl))
  ok_denied b (Visiting token arms points) slot cmd p o = ok_wanted b (Visiting token arms points) p o
  ok_denied b (Telling token a kept lose after) slot cmd p o = ok_wanted b (Telling token a kept lose after) p o

  pub ok_told : (b : Books) (token : ℕ) (a : Answer) (kept : Books) (lose after : Option (List Arm)) (p : List (ℕ × Plain)) → (o : OkTelling b token a kept lose after p) → OkNext (told token kept after) o.rest
  ok_told b token a kept lose None p o = o.next
  ok_told b token a kept lose (Some arms) p o = ok_close kept token arms Stops (Some (Last [] None)) o.rest o.next o.then_so refl

  -- an answer is told, or gives way to a fault and a closing
  pub ok_tell : (b : Books) (token : ℕ) (a : Answer) (kept : Books) (arms : List Arm) (lose : Option (List Arm)) (p : List (ℕ × Plain)) → F (closed token b) p → (has σ φ arms ≡ true → Clean (closed token b)) →
      OkTelling b token a kept lose None p → OkNext (tell k b token a kept arms lose) p
  ok_tell b token a kept arms lose p f h o = split (nat_lt k.limits.answer (length (body a))) (λ x. OkNext (cond x (cut k b token a arms) (at b (Telling token a kept lose None))) p)
      (λ _. ok_close (closed token b) token arms Settled (Some (cut_to k a)) p f (λ t. clean_closed σ φ skips token (closed token b).feeds (h t)) refl) (λ _. o)

  -- an answer that is cut to fit has no more changes
  pub no_more_sent : (a : Answer) → told_in σ φ skips a ≡ [] → told_in σ φ skips (fitted k a) ≡ []
  no_more_sent a n = split (is_long k a) (λ x. told_in σ φ skips (cond x (cut_to k a) a) ≡ []) (λ _. refl) (λ _. n)

  pub ok_settle : (b : Books) (token : ℕ) (arms : List Arm) (a : Answer) (p : List (ℕ × Plain)) → F b p → (has σ φ arms ≡ true → Clean (closed token b)) → told_in σ φ skips a ≡ [] → OkNext (settle k b token arms a) p
  ok_settle b token arms a p f h n = ok_close b token arms Settled (Some (fitted k a)) p f h (no_more_sent a n)

  pub ok_now : (b : Books) (token : ℕ) (a : Answer) (p : List (ℕ × Plain)) → F b p → told_in σ φ skips a ≡ [] → OkNext (tell_now k b token a) p
  ok_now b token a p f n = ok_only b token (fitted k a) p f (no_more_sent a n)

  -- an answer with no changes of the arm, after which the feeds are as good
  pub ok_other : (b : Books) (token : ℕ) (a : Answer) (kept : Books) (p : List (ℕ × Plain)) → F b p → F kept p → told_in σ φ skips a ≡ [] → OkNext (tell k b token a kept [] None) p
  ok_other b token a kept p f g n = ok_tell b token a kept [] None p (fine_closed σ φ skips c token b.feeds p f) no_arm (record { rest = p; said = ap (λ z. z ++ p) (sym n); next = g; lost = f; then_so = tt })

  pub nils : {A : Type 0} (u v : List A) → u ++ v ≡ [] → (u ≡ []) × (v ≡ [])
  nils [] v h = (refl, h)
  nils (y ∷ u) v h = absurd (let z : y ∷ (u ++ v) ≡ [] = h in cc)

  -- a feed goes on: with its items left, or by a visit
  pub ok_left : (b : Books) (f : Open) (left : List Shown) (p : List (ℕ × Plain)) → feed_of f.token b.feeds ≡ Some f → f.left ≡ left → F b p → OkNext (continue_left k b f left) p
  ok_left b f [] p e n fine = elim (which_feed σ φ skips c f.token b.feeds p f e fine) [
    | inl h ↦ inl (h.0, h.1.arms)
    | inr h ↦ inr (
      h.0,
      h.1,
      elim h.2 [
        | inl same ↦ inl (ap (λ (z : Open). nat_eq z.token f.token) same ∙ eq-eqb f.token f.token refl, h.1.left ∙ ap (λ (z : Open). of σ φ skips z.left) same ∙ ap (of σ φ skips) n)
        | inr other ↦ inr (other.1, other.0.arms)
      ],
    )
  ]
  ok_left b f (x ∷ xs) p e n fine =
      let front : List Shown = take f.batch (x ∷ xs) in
      let back : List Shown = drop f.batch (x ∷ xs) in
      let none : IsClean σ φ skips f → (of σ φ skips front ≡ []) × (of σ φ skips back ≡ []) = λ cl. nils (of σ φ skips front) (of σ φ skips back) (of_cut σ φ skips f.batch (x ∷ xs) ∙ ap (of σ φ skips) (sym n) ∙ cl.left) in
      ok_tell b f.token (Batch f.notes front None) (with_left f.token back b) f.arms None p (fine_closed σ φ skips c f.token b.feeds p fine) (λ t. closes_it σ φ skips c f.token b.feeds p f e t fine)
      (elim (which_feed σ φ skips c f.token b.feeds p f e fine) [
        | inl h ↦ record {
          rest = p;
          said = ap (λ z. z ++ p) (sym (none h.1).0);
          next = inl (clean_left σ φ skips f.token back b.feeds (none h.1).1 h.0);
          lost = fine;
          then_so = tt;
        }
        | inr h ↦ elim h.2 [
          | inl same ↦ record {
            rest = of σ φ skips back;
            said = h.1.left ∙ ap (λ (z : Open). of σ φ skips z.left) same ∙ ap (of σ φ skips) n ∙ sym (of_cut σ φ skips f.batch (x ∷ xs));
            next = inr (h.0, live_left σ φ skips f.token back b.feeds p (of σ φ skips back) h.1 (ap (λ (z : Open). nat_eq z.token f.token) same ∙ eq-eqb f.token f.token refl) refl);
            lost = fine;
            then_so = tt;
          }
          | inr o ↦ record {
            rest = p;
            said = ap (λ z. z ++ p) (sym (none o.0).0);
            next = inr (h.0, live_apart σ φ skips f.token back b.feeds p (none o.0).1 h.1 o.1);
            lost = fine;
            then_so = tt;
          }
        ]
      ])

  -- a feed is found by its own token
  pub own_token : (token : ℕ) (b : Books) (f : Open) → feed_of token b.feeds ≡ Some f → feed_of f.token b.feeds ≡ Some f
  own_token token b f e = ap (λ z. feed_of z b.feeds) (eqb-true f.token token (found_token σ φ skips token b.feeds f e)) ∙ e

  ok_visit_feed : (b : Books) (token : ℕ) (o : Option Open) (p : List (ℕ × Plain)) → feed_of token b.feeds ≡ o → F b p → OkNext (visit_feed k b token o) p
  ok_visit_feed b token None p e fine = fine
  ok_visit_feed b token (Some f) p e fine = ok_left b f f.left p (own_token token b f e) refl fine

  pub ok_visit : (b : Books) (token : ℕ) (p : List (ℕ × Plain)) → F b p → OkNext (visit k b token) p
  ok_visit b token p fine = ok_visit_feed b token (feed_of token b.feeds) p refl fine

  ok_continue_feed : (b : Books) (token : ℕ) (o : Option Open) (p : List (ℕ × Plain)) → feed_of token b.feeds ≡ o → F b p → OkNext (continue_feed k b token o) p
  ok_continue_feed b token None p e fine = ok_now b token _ p fine refl
  ok_continue_feed b token (Some f) p e fine = split (has_token token b.waiting) (λ x. OkNext (cond x (tell_now k b token (Client (at_wait token))) (continue_left k b f f.left)) p)
      (λ _. ok_now b token _ p fine refl) (λ _. ok_left b f f.left p (own_token token b f e) refl fine)

  ok_continue : (b : Books) (token : ℕ) (o : Option (Cursor)) (p : List (ℕ × Plain)) → F b p → OkNext (continue_on k b token o) p
  ok_continue b token None p fine = ok_continue_feed b token (feed_of token b.feeds) p refl fine
  ok_continue b token (Some s) p fine =
      split (nat_le (length s.rest) s.batch) (λ x. OkNext (cond x (tell k b s.token (Last s.rest None) (closed s.token b) [] None) (tell k b s.token (Part (take s.batch s.rest) None) (with_rest s.token (drop s.batch s.rest) b) [] None)) p)
      (λ _. ok_other b s.token _ _ p fine (fine_closed σ φ skips c s.token b.feeds p fine) refl) (λ _. ok_other b s.token _ _ p fine fine refl)

  ok_stop_feed : (b : Books) (token : ℕ) (o : Option Open) (p : List (ℕ × Plain)) → feed_of token b.feeds ≡ o → F b p → OkNext (stop_feed b token o) p
  ok_stop_feed b token None p e fine = ok_only b token _ p fine refl
  ok_stop_feed b token (Some f) p e fine =
      split (has_token token b.waiting) (λ x. OkNext (cond x (at b (Telling token (Last [] None) (record b { waiting = without token b.waiting }) None (Some f.arms))) (close b token f.arms Stops (Some (Last [] None)))) p)
      (λ _. record { rest = p; said = refl; next = fine; lost = fine; then_so = λ t. closes_it σ φ skips c token b.feeds p f e t fine })
      (λ _. ok_close b token f.arms Stops (Some (Last [] None)) p fine (λ t. closes_it σ φ skips c token b.feeds p f e t fine) refl)

  ok_stop : (b : Books) (token : ℕ) (o : Option (Cursor)) (p : List (ℕ × Plain)) → F b p → OkNext (stop b token o) p
  ok_stop b token None p fine = ok_stop_feed b token (feed_of token b.feeds) p refl fine
  ok_stop b token (Some s) p fine = record { rest = p; said = refl; next = fine_closed σ φ skips c token b.feeds p fine; lost = fine; then_so = tt }

  ok_refuse : (b : Books) (token : ℕ) (noreply : Bool) (a : Answer) (p : List (ℕ × Plain)) → F b p → told_in σ φ skips a ≡ [] → OkNext (refuse k b token noreply a) p
  ok_refuse b token noreply a p fine n = split noreply (λ x. OkNext (cond x (done b) (tell_now k b token a)) p) (λ _. fine) (λ _. ok_now b token a p fine n)

  none_others : (token : ℕ) (fs : List Open) → is_some (feed_of token fs) ≡ false → Others σ φ skips token fs
  none_others token [] e = tt
  none_others token (f ∷ fs) e = split (nat_eq f.token token) (λ x. nat_eq f.token token ≡ x → is_some (cond x (Some f) (feed_of token fs)) ≡ false → Others σ φ skips token (f ∷ fs))
      (λ _ t h. absurd (true≢false h)) (λ _ t h. (t, none_others token fs h)) refl e

  module _ (well : PlansMind k on) where
    pub ok_comes : (b : Books) (token : ℕ) (plan : PL) (noreply : Bool) (count : ℕ) (found : List Found) (arms : List Arm) (batch : ℕ) (p : List (ℕ × Plain)) (to : Answered) →
        OkTask b (Planning token plan noreply count found arms) p → k.next plan noreply count found ≡ Ends to → OkNext (comes_to k b token batch found arms to) p
    ok_comes b token plan noreply count found arms batch p Unsent o e = ok_close b token arms Settled None p (planning_fine b token plan noreply count found arms p o) (planning_closes b token plan noreply count found arms p o) tt
    ok_comes b token plan noreply count found arms batch p (One v) o e = ok_settle b token arms _ p (planning_fine b token plan noreply count found arms p o) (planning_closes b token plan noreply count found arms p o) refl
    ok_comes b token plan noreply count found arms batch p (Fault error text) o e = ok_settle b token arms _ p (planning_fine b token plan noreply count found arms p o) (planning_closes b token plan noreply count found arms p o) refl
    ok_comes b token plan noreply count found arms batch p Wanting o e = ok_close b token arms Settled (Some Internal) p (planning_fine b token plan noreply count found arms p o) (planning_closes b token plan noreply count found arms p o) refl
    ok_comes b token plan noreply count found arms batch p (Stream items) o e =
        let s : Stamped = stamped b.names (points_from [] found) in
        let f = planning_fine b token plan noreply count found arms p o in
        let shuts = planning_closes b token plan noreply count found arms p o in
        split (nat_le (length items) batch) (λ x. OkNext (cond x (settle k b token arms (Last items (Some s))) (tell k b token (Part (take batch items) (Some s)) (with_cursor (record { token = token; rest = drop batch items; batch = batch }) b) arms None)) p)
        (λ _. ok_settle b token arms _ p f shuts refl)
        (λ _. ok_tell b token _ _ arms None p (fine_closed σ φ skips c token b.feeds p f) shuts (record { rest = p; said = refl; next = f; lost = f; then_so = tt }))
    ok_comes b token plan noreply count found arms batch p (Feed feed notes items) o e =
        let f = planning_fine b token plan noreply count found arms p o in
        let w = well.ends plan noreply count found arms feed notes items o.0 e in
        let shuts : has σ φ feed ≡ true → Clean (closed token b) = λ t. planning_closes b token plan noreply count found arms p o (w.0 σ φ t) in
        let g : Open = record { token = token; arms = feed; left = drop batch items; batch = batch; notes = notes } in
        let left : of σ φ skips (drop batch items) ≡ [] = of_aside σ φ skips (drop batch items) (all_drop (λ (x : Shown). IsAside x.sort) batch items w.1) in
        let front : of σ φ skips (take batch items) ≡ [] = of_aside σ φ skips (take batch items) (all_take (λ (x : Shown). IsAside x.sort) batch items w.1) in
        ok_tell b token _ (with_feed g b) feed (Some feed) p (fine_closed σ φ skips c token b.feeds p f) shuts
        (record {
          rest = p;
          said = ap (λ z. z ++ p) (sym front);
          lost = (fine_closed σ φ skips c token b.feeds p f, shuts);
          then_so = tt;
          next = elim o.2 [
            | inl h ↦ fine_more σ φ skips c b.feeds p g o.1 (record { arms = no_more feed arms (w.0 σ φ) h.0; left = left }) h.1
            | inr h ↦ inr (h.0, subst (λ z. LiveIn σ φ skips (b.feeds ++ g ∷ []) z) (sym h.2) (live_new σ φ skips b.feeds g o.1 h.1 left))
          ];
        })
      where
        no_more : (xs ys : List Arm) → (has σ φ xs ≡ true → has σ φ ys ≡ true) → has σ φ ys ≡ false → has σ φ xs ≡ false
        no_more xs ys h e = elim (which (has σ φ xs)) [ inl t ↦ absurd (true≢false (sym (h t) ∙ e)) | inr t ↦ t ]

    pub ok_begin : (b : Books) (token : ℕ) (asked : Asked PL) (p : List (ℕ × Plain)) → F b p → OkNext (begin k b token asked) p
    ok_begin b token (Unreadable noreply text) p fine = ok_refuse b token noreply _ p fine refl
    ok_begin b token (Unplanned noreply text) p fine = split (is_open token b) (λ x. OkNext (cond x (refuse k b token noreply (Client (in_use token))) (refuse k b token noreply (Compile text))) p)
        (λ _. ok_refuse b token noreply _ p fine refl) (λ _. ok_refuse b token noreply _ p fine refl)
    ok_begin b token (Start noreply plan) p fine = split (is_open token b) (λ x. OkNext (cond x (refuse k b token noreply (Client (in_use token))) (at b (Planning token plan noreply (opened b) [] []))) p)
        (λ _. ok_refuse b token noreply _ p fine refl)
        (λ e. (well.begins plan noreply (opened b), none_others token b.feeds (or_false (is_some (cursor_of token b.cursors)) (is_some (feed_of token b.feeds)) e).1, inl (refl, fine)))
    ok_begin b token Continue p fine = ok_continue b token (cursor_of token b.cursors) p fine
    ok_begin b token Stop p fine = ok_stop b token (cursor_of token b.cursors) p fine
    ok_begin b token NoreplyWait p fine = ok_now b token _ p fine refl
    ok_begin b token ServerInfo p fine = ok_now b token _ p fine refl

    pub ok_takes_up : (b : Books) (token : ℕ) (bytes : List ℕ) (is_read : Bool) (p : List (ℕ × Plain)) → F b p → OkNext (takes_up k b token bytes is_read) p
    ok_takes_up b token bytes true p fine = ok_begin b token (k.asked bytes) p fine
    ok_takes_up b token bytes false p fine = ok_only b token Internal p fine refl
