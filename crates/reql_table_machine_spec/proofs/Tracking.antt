-- A feed through the commands that leave it open.
use Rattle.std.proofs.Common.{◌≡◌, ◌≢◌, ℕ, suc, ◌+◌, Bool, true, false, cond, not, ◌&&◌, List, [], ◌∷◌, ◌++◌, length, map, filter, Option, Some, None, refl, sym, ap, subst, ◌∙◌, arith, append_assoc, append-nil, length-append}
use Rattle.std.specs.Prelude.{nat_lt, nat_eq}
use Rattle.std.proofs.lemmas.Bool.{eqb-true, eq-eqb, both_ways, and_parts}
use Rattle.reql_table_machine_spec.specs.Feeding.{Feeding, changed, Comes, Folds}
use Rattle.reql_table_machine_spec.specs.Feeds.{Feed, Table, dropping, push, push_all, is_of, find_feed, notice, after_change, after_changes, opened_in, new_feed, left_by, effect, one_more, adds, answer, after, after_cmd, table_machine}
use Rattle.reql_table_machine_spec.specs.Fed.{changes_by, changes_at, changes_from}
use Rattle.reql_table_machine_spec.specs.declared.command.Cmd.{Cmd}
use Rattle.reql_table_machine_spec.specs.declared.command.Cmd.TheVariants as cmds
use Rattle.reql_table_machine_spec.specs.declared.command.Order.{Order}
use Rattle.reql_shared.specs.declared.recorded.Recorded.{Recorded}
use Rattle.reql_shared.specs.History.{own}
use Rattle.reql_shared.specs.Machine.{replay}
use Rattle.reql_table_machine_spec.proofs.Items.{changed_append, comes_append, good_changed}

-- a command of this number that leaves the feed of an owner as it is
module _ {W N P : Type 0} where
  abbrev pub Leaves : ℕ → ℕ → ℕ → Cmd W N P → Type 0
  Leaves by number who (cmds.Take feed max) = who ≡ by → feed ≢ number
  Leaves by number who (cmds.Unsubscribe feed) = who ≡ by → feed ≢ number
  Leaves by number who other = Unit {0}

  pub leaves_other : (by number who : ℕ) (cmd : Cmd W N P) → who ≢ by → Leaves by number who cmd
  leaves_other by number who (cmds.Write w) ne = tt
  leaves_other by number who (cmds.Index n) ne = tt
  leaves_other by number who (cmds.Subscribe p) ne = tt
  leaves_other by number who (cmds.Take feed max) ne = λ e. absurd (ne e)
  leaves_other by number who (cmds.Unsubscribe feed) ne = λ e. absurd (ne e)
  leaves_other by number who cmds.Shut ne = tt
  leaves_other by number who cmds.Sync ne = tt

pub split : (b : Bool) (P : Bool → Type 0) → (b ≡ true → P true) → (b ≡ false → P false) → P b
split true P t f = t refl
split false P t f = f refl

module _ {C : Type 0} where
  -- an entry of another, and what follows it
  pub not_own : (by : ℕ) (e : Recorded C) (es : List (Recorded C)) → own by (e ∷ es) ≡ [] → (e.by ≢ by) × (own by es ≡ [])
  not_own by e es o = split (nat_eq e.by by) (λ b. nat_eq e.by by ≡ b → cond b (e ∷ own by es) (own by es) ≡ [] → (e.by ≢ by) × (own by es ≡ []))
      (λ _ t x. absurd (let y : e ∷ own by es ≡ [] = x in cc)) (λ _ f x. ((λ q. both_ways (nat_eq e.by by) f (eq-eqb e.by by q)), x)) refl o

module _ {K I : Type 0} where
  -- what is queued leaves whose feed it is
  pub record Same (f g : Feed K I) : Type 0 where
    pub owner : g.owner ≡ f.owner
    pub number : g.number ≡ f.number
    pub kept : g.kept ≡ f.kept
    pub opened : g.opened ≡ f.opened

  pub same_self : (f : Feed K I) → Same f f
  same_self f = record { owner = refl; number = refl; kept = refl; opened = refl }

  same_on : (f g h : Feed K I) → Same f g → Same g h → Same f h
  same_on f g h s t = record { owner = t.owner ∙ s.owner; number = t.number ∙ s.number; kept = t.kept ∙ s.kept; opened = t.opened ∙ s.opened }

  same_dropping : (f : Feed K I) (q : List (ℕ × I)) (p : ℕ × I) → Same f (dropping f q p)
  same_dropping f [] p = record { owner = refl; number = refl; kept = refl; opened = refl }
  same_dropping f (o ∷ q) p = record { owner = refl; number = refl; kept = refl; opened = refl }

  same_push : (size : ℕ) (f : Feed K I) (p : ℕ × I) → Same f (push size f p)
  same_push size f p = elim (nat_lt (length f.queue) size) as (λ b. Same f (cond b (record f { queue = f.queue ++ p ∷ [] }) (dropping f f.queue p)))
      [ true ↦ record { owner = refl; number = refl; kept = refl; opened = refl } | false ↦ same_dropping f f.queue p ]

  pub same_pushes : (size : ℕ) (f : Feed K I) (ps : List (ℕ × I)) → Same f (push_all size f ps)
  same_pushes size f [] = same_self f
  same_pushes size f (p ∷ ps) = same_on f (push size f p) _ (same_push size f p) (same_pushes size (push size f p) ps)

  is_of_same : (by number : ℕ) (f g : Feed K I) → Same f g → is_of by number g ≡ is_of by number f
  is_of_same by number f g s = λ i. nat_eq (s.owner i) by && nat_eq (s.number i) number

  -- the feed is found again where each feed was only changed
  pub find_map : (h : Feed K I → Feed K I) → ((f : Feed K I) → Same f (h f)) → (by number : ℕ) (fs : List (Feed K I)) (f : Feed K I) → find_feed by number fs ≡ Some f → find_feed by number (map h fs) ≡ Some (h f)
  find_map h s by number [] f e = absurd (let e2 : None ≡ Some f = e in cc)
  find_map h s by number (g ∷ gs) f e =
      ap (λ b. cond b (Some (h g)) (find_feed by number (map h gs))) (is_of_same by number g (h g) (s g))
      ∙ split (is_of by number g) (λ b. cond b (Some g) (find_feed by number gs) ≡ Some f → cond b (Some (h g)) (find_feed by number (map h gs)) ≡ Some (h f))
      (λ t e2. ap (λ o. some_to h o) e2) (λ t e2. find_map h s by number gs f e2) e
    where
      some_to : (h : Feed K I → Feed K I) → Option (Feed K I) → Option (Feed K I)
      some_to h None = None
      some_to h (Some x) = Some (h x)

  pub find_end : (by number : ℕ) (fs gs : List (Feed K I)) (f : Feed K I) → find_feed by number fs ≡ Some f → find_feed by number (fs ++ gs) ≡ Some f
  find_end by number [] gs f e = absurd (let e2 : None ≡ Some f = e in cc)
  find_end by number (g ∷ fs) gs f e = split (is_of by number g) (λ b. cond b (Some g) (find_feed by number fs) ≡ Some f → cond b (Some g) (find_feed by number (fs ++ gs)) ≡ Some f) (λ t e2. e2) (λ t e2. find_end by number fs gs f e2) e

  -- a feed is of one owner and one number
  is_of_both : (by number : ℕ) (f : Feed K I) → is_of by number f ≡ true → (f.owner ≡ by) × (f.number ≡ number)
  is_of_both by number f e = let b = and_parts (nat_eq f.owner by) (nat_eq f.number number) e in (eqb-true f.owner by b.0, eqb-true f.number number b.1)

  not_both : (by number who feed : ℕ) (f : Feed K I) → (who ≡ by → feed ≢ number) → is_of by number f ≡ true → is_of who feed f ≡ false
  not_both by number who feed f ne e = split (is_of who feed f) (λ b. is_of who feed f ≡ b → b ≡ false)
      (λ t u. let a = is_of_both by number f e in let b = is_of_both who feed f u in absurd (ne (sym b.0 ∙ a.0) (sym b.1 ∙ a.1))) (λ t u. refl) refl

  -- the feed is found as it was where another one was taken from
  pub find_other : (h : Feed K I → Feed K I) → ((f : Feed K I) → Same f (h f)) → (by number who feed : ℕ) → (who ≡ by → feed ≢ number) → (fs : List (Feed K I)) (f : Feed K I) → find_feed by number fs ≡ Some f → find_feed by number (map (λ g. cond (is_of who feed g) (h g) g) fs) ≡ Some f
  find_other h s by number who feed ne [] f e = absurd (let e2 : None ≡ Some f = e in cc)
  find_other h s by number who feed ne (g ∷ gs) f e =
      ap (λ b. cond b (Some (cond (is_of who feed g) (h g) g)) (find_feed by number (map (λ g. cond (is_of who feed g) (h g) g) gs))) (is_of_same by number g (cond (is_of who feed g) (h g) g) (split (is_of who feed g) (λ b. Same g (cond b (h g) g)) (λ _. s g) (λ _. same_self g)))
      ∙ split (is_of by number g) (λ b. is_of by number g ≡ b → cond b (Some g) (find_feed by number gs) ≡ Some f → cond b (Some (cond (is_of who feed g) (h g) g)) (find_feed by number (map (λ g. cond (is_of who feed g) (h g) g) gs)) ≡ Some f)
      (λ t u e2. ap (λ b. Some (cond b (h g) g)) (not_both by number who feed g ne u) ∙ e2) (λ t u e2. find_other h s by number who feed ne gs f e2) refl e

  -- and where another one was closed
  pub find_kept : (by number who feed : ℕ) → (who ≡ by → feed ≢ number) → (fs : List (Feed K I)) (f : Feed K I) → find_feed by number fs ≡ Some f → find_feed by number (filter (λ g. not (is_of who feed g)) fs) ≡ Some f
  find_kept by number who feed ne [] f e = absurd (let e2 : None ≡ Some f = e in cc)
  find_kept by number who feed ne (g ∷ gs) f e =
      split (is_of by number g) (λ b. is_of by number g ≡ b → cond b (Some g) (find_feed by number gs) ≡ Some f → find_feed by number (filter (λ g. not (is_of who feed g)) (g ∷ gs)) ≡ Some f)
      (λ t u e2. ap (λ b. find_feed by number (cond (not b) (g ∷ filter (λ g. not (is_of who feed g)) gs) (filter (λ g. not (is_of who feed g)) gs))) (not_both by number who feed g ne u) ∙ ap (λ b. cond b (Some g) (find_feed by number (filter (λ g. not (is_of who feed g)) gs))) u ∙ e2)
      (λ t u e2.
      let rest : find_feed by number (filter (λ g. not (is_of who feed g)) gs) ≡ Some f = find_kept by number who feed ne gs f e2 in
      split (is_of who feed g) (λ b. find_feed by number (cond (not b) (g ∷ filter (λ g. not (is_of who feed g)) gs) (filter (λ g. not (is_of who feed g)) gs)) ≡ Some f)
      (λ _. rest) (λ _. ap (λ b. cond b (Some g) (find_feed by number (filter (λ g. not (is_of who feed g)) gs))) u ∙ rest))
      refl e

module _ {D J W N P M X K I F : Type 0} (m : Feeding D J W N P M X K I F) (good : D → Type 0) (may : D → X → Type 0) (l : Folds m good may) where
  -- A feed of this owner and number, opened with these documents at this stamp, after these changes: `holds` of the feed and the changes.
  pub record Tracked (holds : Feed K I → List X → Type 0) (by number : ℕ) (k : K) (d : D) (n : ℕ) (xs : List X) (t : Table D J K I) : Type 0 where
    pub feed : Feed K I
    pub found : find_feed by number t.feeds ≡ Some feed
    pub kept : feed.kept ≡ k
    pub docs : t.docs ≡ changed m d xs
    pub stamp : t.stamp ≡ n + length xs
    pub first : good d
    pub comes : Comes m may d xs
    pub holding : holds feed xs

  -- what holds goes on to hold after one more change
  abbrev pub GoesOn : (Feed K I → List X → Type 0) → K → D → ℕ → Type 0
  GoesOn holds k d n = (f : Feed K I) (xs : List X) (x : X) → f.kept ≡ k → good d → Comes m may d xs → may (changed m d xs) x → holds f xs → holds (notice m (changed m d xs) (n + length xs) x f) (xs ++ x ∷ [])

  module _ (holds : Feed K I → List X → Type 0) (by number : ℕ) (k : K) (d : D) (n : ℕ) (on : GoesOn holds k d n) where
    same_notice : (d : D) (n : ℕ) (x : X) (f : Feed K I) → Same f (notice m d n x f)
    same_notice d n x f = same_pushes (m.size f.kept) f (map (λ i. (suc n, i)) (m.items f.kept d x))

    tracked_change : (xs : List X) (t : Table D J K I) (x : X) → may t.docs x → Tracked holds by number k d n xs t → Tracked holds by number k d n (xs ++ x ∷ []) (after_change m t x)
    tracked_change xs t x c r = record {
      feed = notice m t.docs t.stamp x r.feed;
      found = find_map (notice m t.docs t.stamp x) (same_notice t.docs t.stamp x) by number t.feeds r.feed r.found;
      kept = (same_notice t.docs t.stamp x r.feed).kept ∙ r.kept;
      docs = ap (λ e. m.change e x) r.docs ∙ sym (changed_append m d xs (x ∷ []));
      stamp = omega (arith, r.stamp, length-append xs (x ∷ []));
      first = r.first;
      comes = comes_append m good may d xs (x ∷ []) r.comes (subst (λ e. may e x) r.docs c, tt);
      holding = subst (λ (p : D × ℕ). holds (notice m p.0 p.1 x r.feed) (xs ++ x ∷ [])) (λ i. (sym r.docs i, sym r.stamp i)) (on r.feed xs x r.kept r.first r.comes (subst (λ e. may e x) r.docs c) r.holding);
    }

    tracked_changes : (xs ys : List X) (t : Table D J K I) → Comes m may t.docs ys → Tracked holds by number k d n xs t → Tracked holds by number k d n (xs ++ ys) (after_changes m t ys)
    tracked_changes xs [] t c r = subst (λ zs. Tracked holds by number k d n zs t) (sym (append-nil xs)) r
    tracked_changes xs (y ∷ ys) t c r =
        subst (λ zs. Tracked holds by number k d n zs (after_changes m t (y ∷ ys))) (append_assoc xs (y ∷ []) ys)
        (tracked_changes (xs ++ y ∷ []) ys (after_change m t y) c.1 (tracked_change xs t y c.0 r))

    -- feeds, docs and stamp are all that tracking looks at
    tracked_as : (xs : List X) (t u : Table D J K I) → find_feed by number u.feeds ≡ find_feed by number t.feeds → u.docs ≡ t.docs → u.stamp ≡ t.stamp → Tracked holds by number k d n xs t → Tracked holds by number k d n xs u
    tracked_as xs t u f e s r = record {
      feed = r.feed;
      found = f ∙ r.found;
      kept = r.kept;
      docs = e ∙ r.docs;
      stamp = s ∙ r.stamp;
      first = r.first;
      comes = r.comes;
      holding = r.holding;
    }

    tracked_opened : (xs : List X) (t : Table D J K I) (who : ℕ) (o : Option K) → Tracked holds by number k d n xs t → Tracked holds by number k d n xs (opened_in m t who o)
    tracked_opened xs t who None r = r
    tracked_opened xs t who (Some j) r = split (nat_lt (length t.feeds) m.most) (λ b. Tracked holds by number k d n xs (cond b (record t { feeds = t.feeds ++ new_feed m t who j ∷ [] }) t))
        (λ _. tracked_as xs t (record t { feeds = t.feeds ++ new_feed m t who j ∷ [] }) (find_end by number t.feeds (new_feed m t who j ∷ []) r.feed r.found ∙ sym r.found) refl refl r) (λ _. r)

    tracked_effect : (xs : List X) (t : Table D J K I) (who : ℕ) (cmd : Cmd W N P) → Leaves by number who cmd → Tracked holds by number k d n xs t → Tracked holds by number k d n (xs ++ changes_by m t cmd) (effect m t who cmd)
    tracked_effect xs t who (cmds.Write w) v r = tracked_changes xs (m.changes t.docs t.indexes w) t (l.writes t.docs t.indexes w (subst good (sym r.docs) (good_changed m good may l d xs r.first r.comes))) r
    tracked_effect xs t who (cmds.Index j) v r = subst (λ zs. Tracked holds by number k d n zs (effect m t who (cmds.Index j))) (sym (append-nil xs)) (tracked_as xs t _ refl refl refl r)
    tracked_effect xs t who (cmds.Subscribe p) v r = subst (λ zs. Tracked holds by number k d n zs (effect m t who (cmds.Subscribe p))) (sym (append-nil xs)) (tracked_opened xs t who (m.keep t.indexes p) r)
    tracked_effect xs t who (cmds.Take feed max) v r = subst (λ zs. Tracked holds by number k d n zs (effect m t who (cmds.Take feed max))) (sym (append-nil xs))
        (tracked_as xs t _ (find_other (left_by m max) (λ f. record { owner = refl; number = refl; kept = refl; opened = refl }) by number who feed v t.feeds r.feed r.found ∙ sym r.found) refl refl r)
    tracked_effect xs t who (cmds.Unsubscribe feed) v r = subst (λ zs. Tracked holds by number k d n zs (effect m t who (cmds.Unsubscribe feed))) (sym (append-nil xs))
        (tracked_as xs t _ (find_kept by number who feed v t.feeds r.feed r.found ∙ sym r.found) refl refl r)
    tracked_effect xs t who cmds.Shut v r = subst (λ zs. Tracked holds by number k d n zs (effect m t who cmds.Shut)) (sym (append-nil xs)) (tracked_as xs t _ refl refl refl r)
    tracked_effect xs t who cmds.Sync v r = subst (λ zs. Tracked holds by number k d n zs (effect m t who cmds.Sync)) (sym (append-nil xs)) r

    -- a command that leaves the feed open
    pub tracked_step : (xs : List X) (t : Table D J K I) (who : ℕ) (cmd : Cmd W N P) → Leaves by number who cmd → Tracked holds by number k d n xs t → Tracked holds by number k d n (xs ++ changes_at m t who cmd) (after_cmd m t who cmd)
    tracked_step xs t who cmd v r = split (adds m (answer m t who cmd)) (λ b. Tracked holds by number k d n (xs ++ cond b (changes_by m t cmd) []) (cond b (one_more m (effect m t who cmd)) t))
        (λ _. tracked_as (xs ++ changes_by m t cmd) (effect m t who cmd) (one_more m (effect m t who cmd)) refl refl refl (tracked_effect xs t who cmd v r))
        (λ _. subst (λ zs. Tracked holds by number k d n zs t) (sym (append-nil xs)) r)

    -- entries of others
    pub tracked_others : (xs : List X) (t : Table D J K I) (es : List (Recorded (Order (Cmd W N P)))) → own by es ≡ [] → Tracked holds by number k d n xs t → Tracked holds by number k d n (xs ++ changes_from m t es) (replay (table_machine m) t es)
    tracked_others xs t [] o r = subst (λ zs. Tracked holds by number k d n zs t) (sym (append-nil xs)) r
    tracked_others xs t (e ∷ es) o r =
        let z : (e.by ≢ by) × (own by es ≡ []) = not_own by e es o in
        subst (λ zs. Tracked holds by number k d n zs (replay (table_machine m) (after m t e.by e.cmd) es)) (append_assoc xs (changes_at m t e.by e.cmd.cmd) (changes_from m (after m t e.by e.cmd) es))
        (tracked_others (xs ++ changes_at m t e.by e.cmd.cmd) (after m t e.by e.cmd) es z.1 (tracked_step xs t e.by e.cmd.cmd (leaves_other by number e.by e.cmd.cmd z.0) r))
