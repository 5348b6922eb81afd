-- The answers of a feed's Takes tell what its queue skipped.
use Rattle.std.proofs.Common.{◌≡◌, ◌≢◌, ◌<◌, ◌≤◌, ℕ, suc, ◌+◌, ◌-◌, ◌^◌, max, true, false, true≢false, not, cond, ◌&&◌, ◌||◌, List, [], ◌∷◌, ◌++◌, length, take, drop, Option, Some, None, refl, sym, ap, subst, ◌∙◌, arith, append_assoc, append-nil, length-append, length-drop}
use Rattle.std.specs.List.{AllByRecursion}
use Rattle.std.specs.Prelude.{nat_lt, nat_eq}
use Rattle.std.proofs.Math.Seq.{take-append_seam, drop-append_seam}
use Rattle.std.proofs.lemmas.List.{take-append-drop}
use Rattle.std.proofs.lemmas.Bool.{eqb-true, eq-eqb, both_ways}
use Rattle.reql_table_machine_spec.specs.Feeding.{Feeding, changed, appended}
use Rattle.reql_table_machine_spec.specs.Feeds.{Feed, Table, push_all, find_feed, is_none_queued, has_something, given_by, left_by, opened_in, opens, new_feed, one_more, unless_shut, adds, is_past, if_room, answer, after_cmd, reply_to_cmd, table_machine}
use Rattle.reql_table_machine_spec.specs.Fed.{Taking, taking_by, is_end, takings, changes_at, changes_from, docs_at}
use Rattle.reql_table_machine_spec.specs.Skips.{last_stamp, Fits, names_feed}
use Rattle.reql_table_machine_spec.specs.Telling.{skips_of, IsCounted, Parts, Answers, AreTold, Gives, AreLaid, OpenedSaid, OpenedCmd, AllOpened, OfAllOpened, TakesTellSkips, TakesLieInOrder}
use Rattle.reql_table_machine_spec.specs.declared.command.Cmd.{Cmd}
use Rattle.reql_table_machine_spec.specs.declared.command.Cmd.TheVariants as cmds
use Rattle.reql_table_machine_spec.specs.declared.command.Order.{Order}
use Rattle.reql_table_machine_spec.specs.declared.command.Reply.{Reply}
use Rattle.reql_table_machine_spec.specs.declared.command.Look.{Look}
use Rattle.reql_table_machine_spec.specs.declared.command.Said.{Said}
use Rattle.reql_table_machine_spec.specs.declared.command.Said.TheVariants as said
use Rattle.reql_shared.specs.declared.recorded.Recorded.{Recorded}
use Rattle.reql_shared.specs.History.{own}
use Rattle.reql_shared.specs.Machine.{Machine, replay}
use Rattle.reql_shared.specs.Acts.{Act, Ran, Looked, Denied, entries_of}
use Rattle.reql_shared.specs.Plays.{WovenTo}
use Rattle.reql_shared.proofs.Weaving.{replay_append, woven_longer}
use Rattle.reql_table_machine_spec.proofs.Items.{Below, all_append, below_more, appended_append, appended_above, appended_below}
use Rattle.reql_table_machine_spec.proofs.Reach.{after_docs, reach, changes_append}
use Rattle.reql_table_machine_spec.proofs.Skipping.{Drops, left_fits, drops_on, pushes_drop, grown, grown_kept, after_found, history_found}
use Rattle.reql_table_machine_spec.proofs.Tables.{Low, find_new, replay_low}
use Rattle.reql_table_machine_spec.proofs.Tracking.{split, Leaves, not_own}
use Rattle.reql_table_machine_spec.proofs.Folding.{find_taken, found_nothing, After, Idle, ran, idle, take_cases, left_so}

module _ {A : Type 0} where
  none_of : (xs : List A) → length xs ≡ 0 → xs ≡ []
  none_of [] e = refl
  none_of (x ∷ xs) e = absurd (omega (arith, e))

module _ {K I : Type 0} where
  -- a feed with nothing in its queue, where the last item that went had this stamp
  abbrev clear : K → ℕ → Feed K I
  clear k last = record { owner = 0; number = 0; kept = k; opened = 0; queue = []; skipped = 0; last = last }

  clear_fits : (size : ℕ) (k : K) (last : ℕ) → Fits size (clear k last)
  clear_fits size k last = record { queued = omega arith; counted = omega arith }

-- entries of others name no feed of this owner
module _ {W N P : Type 0} where
  passes : (by number : ℕ) (es : List (Recorded (Order (Cmd W N P)))) → own by es ≡ [] → AllByRecursion (λ (e : Recorded (Order (Cmd W N P))). e.by ≡ by → names_feed number e.cmd.cmd ≡ false) es
  passes by number [] o = tt
  passes by number (e ∷ es) o = let z : (e.by ≢ by) × (own by es ≡ []) = not_own by e es o in ((λ q. absurd (z.0 q)), passes by number es z.1)

-- What waits of a feed, and its queue.
module _ {D J W N P M X K I F : Type 0} (m : Feeding D J W N P M X K I F) (k : K) where
  -- a feed whose queue holds what waits, but for the oldest that have no place
  pub record Waits (last : ℕ) (waiting : List (ℕ × I)) (f : Feed K I) : Type 0 where
    pub kept : f.kept ≡ k
    pub drops : Drops (m.size k) (clear k last) waiting f

  long : (last : ℕ) (w : List (ℕ × I)) (f : Feed K I) → (h : Waits last w f) → length w ≡ length h.drops.dropped + length f.queue
  long last w f h = ap length h.drops.whole ∙ length-append h.drops.dropped f.queue

  waits_on : (last : ℕ) (w : List (ℕ × I)) (f : Feed K I) (d : D) (n : ℕ) (xs : List X) → Waits last w f → Waits last (w ++ appended m k d n xs) (grown m f d n xs)
  waits_on last w f d n xs h =
      let size : ℕ = m.size k in
      let is : List (ℕ × I) = appended m k d n xs in
      record {
        kept = grown_kept m f d n xs ∙ h.kept;
        drops = subst (λ j. Drops (m.size k) (clear k last) (w ++ appended m k d n xs) (push_all (m.size j) f (appended m j d n xs))) (sym h.kept)
            (drops_on size (clear k last) w is f (push_all size f is) (clear_fits size k last) h.drops
            (pushes_drop size f is (left_fits size (clear k last) w f (clear_fits size k last) h.drops)));
      }

  -- nothing waits where the queue is empty
  nothing_waits : (last : ℕ) (w : List (ℕ × I)) (f : Feed K I) → Waits last w f → f.queue ≡ [] → w ≡ []
  nothing_waits last w f h e = none_of w (omega (arith, long last w f h, h.drops.many, ap length e))

  -- something waits where a Take finds something
  something_waits : (last : ℕ) (w : List (ℕ × I)) (f : Feed K I) → Waits last w f → has_something f ≡ true → w ≢ []
  something_waits last w f h s e =
      let none : length h.drops.dropped + length f.queue ≡ 0 = omega (arith, long last w f h, ap length e) in
      let queue : f.queue ≡ [] = none_of f.queue (omega (arith, none)) in
      let skipped : f.skipped ≡ 0 = omega (arith, none, h.drops.skips) in
      true≢false (sym s ∙ (λ i. not (nat_eq (skipped i) 0) || not (is_none_queued (queue i))))

  waits_none : (last : ℕ) (w : List (ℕ × I)) (f : Feed K I) → Waits last w f → f.queue ≡ [] → f.skipped ≡ 0 → Waits last [] f
  waits_none last w f h e z =
      let none : h.drops.dropped ≡ [] = none_of h.drops.dropped (omega (arith, long last w f h, h.drops.many, ap length e)) in
      record {
        kept = h.kept;
        drops = record { dropped = []; whole = sym e; many = omega arith; skips = omega (arith, z); tells = h.drops.tells ∙ ap (λ l. last_stamp last l) none };
      }

  -- what a Take gives and leaves
  abbrev left_of : ℕ → Feed K I → List (ℕ × I)
  left_of most f = cond (m.squashes f.kept) [] (drop most f.queue)

  batch_parts : (most last : ℕ) (w : List (ℕ × I)) (f : Feed K I) → Waits last w f → Parts m k most last w f.skipped f.last (given_by m most f) (left_of most f)
  batch_parts most last w f h = record {
    gone = h.drops.dropped;
    queue = f.queue;
    parts = h.drops.whole;
    many = omega (arith, h.drops.many);
    skips = omega (arith, h.drops.skips);
    tells = h.drops.tells;
    gives = ap (λ j. cond (m.squashes j) (m.net j f.queue) (take most f.queue)) h.kept;
    leaves = ap (λ j. cond (m.squashes j) [] (drop most f.queue)) h.kept;
  }

  waits_left : (most last : ℕ) (w : List (ℕ × I)) (f : Feed K I) → Waits last w f → Waits f.last (left_of most f) (left_by m most f)
  waits_left most last w f h = record {
    kept = h.kept;
    drops = record { dropped = []; whole = refl; many = omega (arith, within); skips = omega arith; tells = refl };
  }
    where
      few : length f.queue ≤ max 1 (m.size k)
      few = (left_fits (m.size k) (clear k last) w f (clear_fits (m.size k) k last) h.drops).queued

      within : length (left_of most f) ≤ max 1 (m.size k)
      within = split (m.squashes f.kept) (λ b. length (cond b [] (drop most f.queue)) ≤ max 1 (m.size k)) (λ _. omega arith) (λ _. omega (arith, few, length-drop most f.queue))

-- A feed of this owner and number, and its owner's acts.
module _ {D J W N P M X K I F : Type 0} (m : Feeding D J W N P M X K I F) (ends : List (Recorded (Order (Cmd W N P))) → Type 0) (by number : ℕ) (k : K) where
  abbrev T : Type 0
  T = Table D J K I

  abbrev Entries : Type 0
  Entries = List (Recorded (Order (Cmd W N P)))

  abbrev Performed : Type 0
  Performed = Act (Order (Cmd W N P)) (Reply (Said M I)) (Unit {0}) (Look (D × J))

  abbrev machine : Machine T (Order (Cmd W N P)) (Reply (Said M I)) (Unit {0}) (Look (D × J))
  machine = table_machine m

  -- what a Take that is answered so tells and leaves
  record Taken (most : ℕ) (t : T) (last : ℕ) (w : List (ℕ × I)) (s : Said M I) : Type 0 where
    pub now : ℕ
    pub on : List (ℕ × I)
    pub tells : Answers m k most last w s now on
    pub feed : Feed K I
    pub found : find_feed by number (left_so m by number t most s).feeds ≡ Some feed
    pub waits : Waits m k now on feed

  taken : (most : ℕ) (t : T) (last : ℕ) (w : List (ℕ × I)) (f : Feed K I) → find_feed by number t.feeds ≡ Some f → Waits m k last w f → Taken most t last w (answer m t by (cmds.Take number most))
  taken most t last w f e h = take_cases m by number t most f e (Taken most t last w)
      (λ s. record { now = last; on = w; tells = (refl, refl, something_waits m k last w f h s); feed = f; found = e; waits = h })
      (λ s. record {
        now = f.last;
        on = left_of m k most f;
        tells = (batch_parts m k most last w f h, refl, something_waits m k last w f h s);
        feed = left_by m most f;
        found = find_taken (left_by m most) by number (λ g. refl) t.feeds f e;
        waits = waits_left m k most last w f h;
      })
      (λ n. let z = found_nothing f n in record { now = last; on = []; tells = (nothing_waits m k last w f h z.1, refl, refl); feed = f; found = e; waits = waits_none m k last w f h z.1 z.0 })
      (λ n. let z = found_nothing f n in record { now = last; on = []; tells = (nothing_waits m k last w f h z.1, refl, refl); feed = f; found = e; waits = waits_none m k last w f h z.1 z.0 })

  -- a table with the feed, where this was left by the Take before and this came since
  record Stands (last : ℕ) (left came : List (ℕ × I)) (t : T) : Type 0 where
    pub feed : Feed K I
    pub found : find_feed by number t.feeds ≡ Some feed
    pub waits : Waits m k last (left ++ came) feed
    pub below : Below t.stamp came

  abbrev items : T → List X → List (ℕ × I)
  items t xs = appended m k t.docs t.stamp xs

  -- a later table, after some changes
  stands_on : (last : ℕ) (left came : List (ℕ × I)) (t u : T) (xs : List X) (r : Stands last left came t) → find_feed by number u.feeds ≡ Some (grown m r.feed t.docs t.stamp xs) → u.stamp ≡ t.stamp + length xs → Stands last left (came ++ items t xs) u
  stands_on last left came t u xs r e n = record {
    feed = grown m r.feed t.docs t.stamp xs;
    found = e;
    waits = subst (λ w. Waits m k last w (grown m r.feed t.docs t.stamp xs)) (append_assoc left came (items t xs)) (waits_on m k last (left ++ came) r.feed t.docs t.stamp xs r.waits);
    below = all_append (λ (p : ℕ × I). p.0 ≤ u.stamp) came (items t xs) (below_more t.stamp u.stamp came (omega (arith, n)) r.below) (subst (λ z. Below z (items t xs)) (sym n) (appended_below m k t.docs t.stamp xs));
  }

  stands_others : (last : ℕ) (left came : List (ℕ × I)) (t : T) (es : Entries) → own by es ≡ [] → Stands last left came t → Stands last left (came ++ items t (changes_from m t es)) (replay machine t es)
  stands_others last left came t es o r =
      stands_on last left came t (replay machine t es) (changes_from m t es) r (history_found m by number es t r.feed r.found (passes by number es o)) (reach m t es).1

  stands_after : (last : ℕ) (left came : List (ℕ × I)) (t : T) (cmd : Cmd W N P) → Leaves by number by cmd → Stands last left came t → Stands last left (came ++ items t (changes_at m t by cmd)) (after_cmd m t by cmd)
  stands_after last left came t cmd v r =
      stands_on last left came t (after_cmd m t by cmd) (changes_at m t by cmd) r (after_found m by number t by cmd r.feed v r.found) (after_docs m t by cmd).1

  -- what comes, from a later table on
  from_later : (came : List (ℕ × I)) (t u : T) (xs ys : List X) → u.docs ≡ changed m t.docs xs → u.stamp ≡ t.stamp + length xs → (came ++ items t xs) ++ items u ys ≡ came ++ items t (xs ++ ys)
  from_later came t u xs ys d n = append_assoc came (items t xs) (items u ys)
      ∙ ap (λ z. came ++ z) ((λ i. items t xs ++ appended m k (d i) (n i) ys) ∙ sym (appended_append m k t.docs t.stamp xs ys))

  abbrev Tells : List Performed → Type 0
  Tells acts = (history : Entries) (place : ℕ) (t : T) (last : ℕ) (left came : List (ℕ × I)) → WovenTo machine ends t by place acts history → Stands last left came t
      → AreTold m k last left (came ++ items t (changes_from m t history)) (takings number acts)

  -- the Takes of a command and of the acts after it
  abbrev after_it : Cmd W N P → Reply (Said M I) → List Performed → List (Taking M I)
  after_it cmd reply acts = cond (is_end number cmd) [] (taking_by number cmd reply ++ takings number acts)

  -- what comes from a command on
  abbrev from_cmd : T → Cmd W N P → Entries → List X
  from_cmd t cmd rest = changes_at m t by cmd ++ changes_from m (after_cmd m t by cmd) rest

  leaving : (acts : List Performed) → Tells acts → (cmd : Cmd W N P) → Leaves by number by cmd → (rest : Entries) (place : ℕ) (t : T) (last : ℕ) (left came : List (ℕ × I)) → WovenTo machine ends (after_cmd m t by cmd) by place acts rest → Stands last left came t
      → AreTold m k last left (came ++ items t (from_cmd t cmd rest)) (takings number acts)
  leaving acts ih cmd v rest place t last left came w r =
      let u : T = after_cmd m t by cmd in
      let a = after_docs m t by cmd in
      subst (λ z. AreTold m k last left z (takings number acts)) (from_later came t u (changes_at m t by cmd) (changes_from m u rest) a.0 a.1)
      (ih rest place u last left (came ++ items t (changes_at m t by cmd)) w (stands_after last left came t cmd v r))

  taking : (acts : List Performed) → Tells acts → (most : ℕ) (rest : Entries) (place : ℕ) (t : T) (last : ℕ) (left came : List (ℕ × I)) → WovenTo machine ends (after_cmd m t by (cmds.Take number most)) by place acts rest → Stands last left came t
      → (let one : Taking M I = record { max = most; stamp = (reply_to_cmd m t by (cmds.Take number most)).stamp; said = answer m t by (cmds.Take number most) } in
      AreTold m k last left (came ++ items t (from_cmd t (cmds.Take number most) rest)) (one ∷ takings number acts))
  taking acts ih most rest place t last left came w r =
      let cmd : Cmd W N P = cmds.Take number most in
      let u : T = after_cmd m t by cmd in
      let ys : List X = changes_from m u rest in
      let a = after_docs m t by cmd in
      let none : changes_at m t by cmd ≡ [] = split (adds m (answer m t by cmd)) (λ b. cond {A = List X} b [] [] ≡ []) (λ _. refl) (λ _. refl) in
      let same : u.stamp ≡ t.stamp = omega (arith, a.1, ap length none) in
      let o : Taken most t last (left ++ came) (answer m t by cmd) = taken most t last (left ++ came) r.feed r.found r.waits in
      let shape : came ++ items t (from_cmd t cmd rest) ≡ came ++ items u ys =
      sym (from_later came t u (changes_at m t by cmd) ys a.0 a.1) ∙ ap (λ z. (came ++ items t z) ++ items u ys) none ∙ ap (λ z. z ++ items u ys) (append-nil came) in (
        came,
        items u ys,
        o.on,
        o.now,
        shape,
        subst (λ z. Below z came) (sym same) r.below,
        appended_above m k u.docs u.stamp ys,
        o.tells,
        ih rest place u o.now o.on [] w (record { feed = o.feed; found = o.found; waits = subst (λ z. Waits m k o.now z o.feed) (sym (append-nil o.on)) o.waits; below = tt }),
      )

  told_cmd : (acts : List Performed) → Tells acts → (cmd : Cmd W N P) (rest : Entries) (place : ℕ) (t : T) (last : ℕ) (left came : List (ℕ × I)) → WovenTo machine ends (after_cmd m t by cmd) by place acts rest → Stands last left came t
      → AreTold m k last left (came ++ items t (from_cmd t cmd rest)) (after_it cmd (reply_to_cmd m t by cmd) acts)
  told_cmd acts ih (cmds.Write c) rest place t last left came w r = leaving acts ih (cmds.Write c) tt rest place t last left came w r
  told_cmd acts ih (cmds.Index c) rest place t last left came w r = leaving acts ih (cmds.Index c) tt rest place t last left came w r
  told_cmd acts ih (cmds.Subscribe c) rest place t last left came w r = leaving acts ih (cmds.Subscribe c) tt rest place t last left came w r
  told_cmd acts ih cmds.Shut rest place t last left came w r = leaving acts ih cmds.Shut tt rest place t last left came w r
  told_cmd acts ih cmds.Sync rest place t last left came w r = leaving acts ih cmds.Sync tt rest place t last left came w r
  told_cmd acts ih (cmds.Unsubscribe feed) rest place t last left came w r =
      split (nat_eq feed number) (λ b. AreTold m k last left (came ++ items t (from_cmd t (cmds.Unsubscribe feed) rest)) (cond b [] (takings number acts))) (λ _. tt)
      (λ e. leaving acts ih (cmds.Unsubscribe feed) (λ _ q. both_ways (nat_eq feed number) e (eq-eqb feed number q)) rest place t last left came w r)
  told_cmd acts ih (cmds.Take feed most) rest place t last left came w r =
      let one : Taking M I = record { max = most; stamp = (reply_to_cmd m t by (cmds.Take feed most)).stamp; said = answer m t by (cmds.Take feed most) } in
      split (nat_eq feed number) (λ b. AreTold m k last left (came ++ items t (from_cmd t (cmds.Take feed most) rest)) (cond b (one ∷ []) [] ++ takings number acts))
      (λ e. let q : feed ≡ number = eqb-true feed number e in
      subst (λ z. let o : Taking M I = record { max = most; stamp = (reply_to_cmd m t by (cmds.Take z most)).stamp; said = answer m t by (cmds.Take z most) } in
      AreTold m k last left (came ++ items t (from_cmd t (cmds.Take z most) rest)) (o ∷ takings number acts)) (sym q)
      (taking acts ih most rest place t last left came (subst (λ z. WovenTo machine ends (after_cmd m t by (cmds.Take z most)) by place acts rest) q w) r))
      (λ e. leaving acts ih (cmds.Take feed most) (λ _ q. both_ways (nat_eq feed number) e (eq-eqb feed number q)) rest place t last left came w r)

  told_idle : (acts : List Performed) → Tells acts → (history : Entries) (t : T) (last : ℕ) (left came : List (ℕ × I)) → Idle m ends by t acts history → Stands last left came t → AreTold m k last left (came ++ items t (changes_from m t history)) (takings number acts)
  told_idle acts ih history t last left came a r =
      let s : T = replay machine t a.others in
      let h = reach m t a.others in
      subst (λ z. AreTold m k last left z (takings number acts))
      (from_later came t s (changes_from m t a.others) (changes_from m s a.rest) h.0 h.1 ∙ ap (λ z. came ++ items t z) (sym a.changes))
      (ih a.rest a.place s last left (came ++ items t (changes_from m t a.others)) a.woven (stands_others last left came t a.others a.theirs r))

  told : (acts : List Performed) → Tells acts
  told [] history place t last left came w r = tt
  told (Ran p order reply ∷ acts) history place t last left came w r =
      let a : After m ends by t place p acts history order.cmd reply = ran m ends by t place p order reply acts history w in
      let s : T = replay machine t a.others in
      let h = reach m t a.others in
      subst (λ z. AreTold m k last left z (after_it order.cmd reply acts))
      (from_later came t s (changes_from m t a.others) (from_cmd s order.cmd a.rest) h.0 h.1
      ∙ ap (λ z. came ++ items t z) (sym (append_assoc (changes_from m t a.others) (changes_at m s by order.cmd) (changes_from m (after_cmd m s by order.cmd) a.rest)) ∙ sym a.changes))
      (subst (λ z. AreTold m k last left ((came ++ items t (changes_from m t a.others)) ++ items s (from_cmd s order.cmd a.rest)) (after_it order.cmd z acts)) (sym a.answered)
      (told_cmd acts (told acts) order.cmd a.rest a.place s last left (came ++ items t (changes_from m t a.others)) a.woven (stands_others last left came t a.others a.theirs r)))
  told (Looked p q x ∷ acts) history place t last left came w r = told_idle acts (told acts) history t last left came (idle m ends by t place (Looked p q x) acts history refl w) r
  told (Denied p ∷ acts) history place t last left came w r = told_idle acts (told acts) history t last left came (idle m ends by t place (Denied p) acts history refl w) r

module _ {D J W N P M X K I F : Type 0} (m : Feeding D J W N P M X K I F) where
  abbrev Tab : Type 0
  Tab = Table D J K I

  abbrev Noted : Type 0
  Noted = List (Recorded (Order (Cmd W N P)))

  abbrev Deed : Type 0
  Deed = Act (Order (Cmd W N P)) (Reply (Said M I)) (Unit {0}) (Look (D × J))

  abbrev of_table : Machine Tab (Order (Cmd W N P)) (Reply (Said M I)) (Unit {0}) (Look (D × J))
  of_table = table_machine m

  -- a feed that was just opened
  told_from : (ends : Noted → Type 0) (by at : ℕ) (t : Tab) (f : Feed K I) (acts : List Deed) (history : Noted) → find_feed by f.number t.feeds ≡ Some f → f.queue ≡ [] → f.skipped ≡ 0 → f.last ≡ 0 → WovenTo of_table ends t by at acts history
      → AreTold m f.kept 0 [] (appended m f.kept t.docs t.stamp (changes_from m t history)) (takings f.number acts)
  told_from ends by at t f acts history found none zero last w = told m ends by f.number f.kept acts history at t 0 [] [] w (record {
    feed = f;
    found = found;
    waits = record { kept = refl; drops = record { dropped = []; whole = sym none; many = omega arith; skips = omega (arith, zero); tells = last } };
    below = tt;
  })

  -- ---- what the Takes tell of lies in their order at the front of all that came
  laid_batch : (k : K) (most last : ℕ) (waiting : List (ℕ × I)) (skipped shown : ℕ) (is left later : List (ℕ × I)) → skipped < 2 ^ 64 - 1 → Parts m k most last waiting skipped shown is left
      → (gone queue : List (ℕ × I)) × (waiting ++ later ≡ gone ++ (queue ++ (left ++ later))) × (length gone ≡ skipped) × (is ≡ cond (m.squashes k) (m.net k queue) queue)
  laid_batch k most last waiting skipped shown is left later c p = (
    p.gone,
    cond (m.squashes k) p.queue (take most p.queue),
    ap (λ z. z ++ later) p.parts ∙ append_assoc p.gone p.queue later ∙ ap (λ z. p.gone ++ z) (ap (λ z. z ++ later) (cut ∙ ap (λ z. cond (m.squashes k) p.queue (take most p.queue) ++ z) (sym p.leaves)) ∙ append_assoc (cond (m.squashes k) p.queue (take most p.queue)) left later),
    omega (arith, p.skips, c),
    p.gives ∙ shows,
  )
    where
      cut : p.queue ≡ cond (m.squashes k) p.queue (take most p.queue) ++ cond (m.squashes k) [] (drop most p.queue)
      cut = split (m.squashes k) (λ b. p.queue ≡ cond b p.queue (take most p.queue) ++ cond b [] (drop most p.queue)) (λ _. sym (append-nil p.queue)) (λ _. sym (take-append-drop most p.queue))

      shows : cond (m.squashes k) (m.net k p.queue) (take most p.queue) ≡ cond (m.squashes k) (m.net k (cond (m.squashes k) p.queue (take most p.queue))) (cond (m.squashes k) p.queue (take most p.queue))
      shows = split (m.squashes k) (λ b. cond b (m.net k p.queue) (take most p.queue) ≡ cond b (m.net k (cond b p.queue (take most p.queue))) (cond b p.queue (take most p.queue))) (λ _. refl) (λ _. refl)

  abbrev Laid : K → List (ℕ × I) → List (ℕ × I) → Said M I → List (ℕ × I) → Type 0
  Laid k waiting left s later = (gone queue : List (ℕ × I)) × (waiting ++ later ≡ gone ++ (queue ++ (left ++ later))) × (length gone ≡ skips_of s) × Gives m k queue s

  laid_answer : (k : K) (most last : ℕ) (waiting : List (ℕ × I)) (s : Said M I) (now : ℕ) (left later : List (ℕ × I)) → skips_of s < 2 ^ 64 - 1 → Answers m k most last waiting s now left → Laid k waiting left s later
  laid_answer k most last waiting (said.Batch skipped shown is) now left later c a = laid_batch k most last waiting skipped shown is left later c a.0
  laid_answer k most last waiting said.Nothing now left later c a = ([], [], ap (λ z. z ++ later) (a.0 ∙ sym a.1), refl, refl)
  laid_answer k most last waiting said.Gone now left later c a = ([], [], ap (λ z. z ++ later) (a.0 ∙ sym a.1), refl, refl)
  laid_answer k most last waiting (said.HistoryFull count) now left later c a = ([], [], ap (λ z. z ++ later) (sym a.0), refl, refl)
  laid_answer k most last waiting (said.Done x) now left later c a = absurd a
  laid_answer k most last waiting said.Changed now left later c a = absurd a
  laid_answer k most last waiting said.IndexExists now left later c a = absurd a
  laid_answer k most last waiting said.IndexMissing now left later c a = absurd a
  laid_answer k most last waiting (said.Opened feed opening) now left later c a = absurd a
  laid_answer k most last waiting (said.FeedsFull count) now left later c a = absurd a
  laid_answer k most last waiting (said.FeedUnknown feed) now left later c a = absurd a
  laid_answer k most last waiting said.Closed now left later c a = absurd a

  laid : (k : K) (ts : List (Taking M I)) (last : ℕ) (left more : List (ℕ × I)) → AllByRecursion (λ (t : Taking M I). IsCounted t) ts → AreTold m k last left more ts → AreLaid m k ts (left ++ more)
  laid k [] last left more c h = tt
  laid k (t ∷ ts) last left more c h =
      let came : List (ℕ × I) = h.0 in
      let later : List (ℕ × I) = h.1 in
      let on : List (ℕ × I) = h.2 in
      let a : Laid k (left ++ came) on t.said later = laid_answer k t.max last (left ++ came) t.said h.3 on later c.0 h.7 in
      (a.0, a.1, on ++ later, ap (λ z. left ++ z) h.4 ∙ sym (append_assoc left came later) ∙ a.2, a.3, a.4, laid k ts h.3 on later c.1 h.8)

  -- ---- the feeds that a user opens
  module _ (holds : K → List (ℕ × I) → List (Taking M I) → Type 0)
      (each : (ends : Noted → Type 0) (by at : ℕ) (t : Tab) (f : Feed K I) (acts : List Deed) (history : Noted) → find_feed by f.number t.feeds ≡ Some f → f.queue ≡ [] → f.skipped ≡ 0 → f.last ≡ 0 → WovenTo of_table ends t by at acts history
      → holds f.kept (appended m f.kept t.docs t.stamp (changes_from m t history)) (takings f.number acts)) where
    abbrev ends_any : Noted → Type 0
    ends_any rest = Unit {0}

    module _ (o : Tab) (history : Noted) (by : ℕ) (s : Tab) (low : Low s.place s.feeds) (acts : List Deed) (pre rest : Noted) (next : ℕ) (whole : history ≡ pre ++ rest) where
      abbrev Opening : Tab → Option K → Said M I → Type 0
      Opening u kept x = WovenTo of_table ends_any (cond (adds m x) u s) by next acts rest → cond (adds m x) u s ≡ replay of_table o pre → OpenedSaid m holds o history kept (cond (adds m x) u s).stamp x acts

      abbrev opened : K → Tab
      opened k = one_more m (record s { feeds = s.feeds ++ new_feed m s by k ∷ [] })

      opening : (k : K) → Opening (opened k) (Some k) (said.Opened (suc s.place) (m.opening k s.docs))
      opening k w e =
          let u : Tab = opened k in
          let r = reach m o pre in
          let xs : List X = changes_from m o pre in
          let ys : List X = changes_from m u rest in
          let all : changes_from m o history ≡ xs ++ ys = ap (λ z. changes_from m o z) whole ∙ changes_append m o pre rest ∙ ap (λ z. xs ++ changes_from m z rest) (sym e) in
          let long : u.stamp - o.stamp ≡ length xs = omega (arith, ap (λ (z : Tab). z.stamp) e, r.1) in
          let docs : docs_at m o history u.stamp ≡ u.docs = ap (λ z. changed m o.docs z) ((λ i. take (long i) (all i)) ∙ take-append_seam xs ys) ∙ sym r.0 ∙ ap (λ (z : Tab). z.docs) (sym e) in
          let rest_is : drop (u.stamp - o.stamp) (changes_from m o history) ≡ ys = (λ i. drop (long i) (all i)) ∙ drop-append_seam xs ys in
          subst (λ (z : D × List X). holds k (appended m k z.0 u.stamp z.1) (takings (suc s.place) acts)) (λ i. (sym docs i, sym rest_is i))
          (each ends_any by next u (new_feed m s by k) acts rest (find_new by s.feeds (new_feed m s by k) s.place low refl refl) refl refl refl w)

      full_or : (u : Tab) (k : K) (x : Said M I) → Opening u (Some k) x → Opening u (Some k) (if_room m u x)
      full_or u k x h = split (adds m x && is_past m u) (λ b. Opening u (Some k) (cond b (said.HistoryFull (2 ^ 64 - 1)) x)) (λ _ w e. tt) (λ _. h)

      subscribed : (kept : Option K) → Opening (one_more m (opened_in m s by kept)) kept (if_room m (one_more m (opened_in m s by kept)) (unless_shut m s (opens m s kept)))
      subscribed None = λ w e. tt
      subscribed (Some k) =
          split (nat_lt (length s.feeds) m.most)
          (λ b. Opening (one_more m (cond b (record s { feeds = s.feeds ++ new_feed m s by k ∷ [] }) s)) (Some k) (if_room m (one_more m (cond b (record s { feeds = s.feeds ++ new_feed m s by k ∷ [] }) s)) (unless_shut m s (cond b (said.Opened (suc s.place) (m.opening k s.docs)) (said.FeedsFull m.most)))))
          (λ _. full_or (opened k) k _ (split s.shut (λ b. Opening (opened k) (Some k) (cond b said.Gone (said.Opened (suc s.place) (m.opening k s.docs)))) (λ _ w e. tt) (λ _. opening k)))
          (λ _. full_or (one_more m s) k _ (split s.shut (λ b. Opening (one_more m s) (Some k) (cond b said.Gone (said.FeedsFull m.most))) (λ _ w e. tt) (λ _ w e. tt)))

      opened_cmd : (place : ℕ) (cmd : Cmd W N P) → replay of_table o (take place history) ≡ s → WovenTo of_table ends_any (after_cmd m s by cmd) by next acts rest → after_cmd m s by cmd ≡ replay of_table o pre → OpenedCmd m holds o history place cmd (reply_to_cmd m s by cmd) acts
      opened_cmd place (cmds.Write w) at v e = tt
      opened_cmd place (cmds.Index w) at v e = tt
      opened_cmd place (cmds.Subscribe p) at v e =
          subst (λ z. OpenedSaid m holds o history (m.keep z.indexes p) (reply_to_cmd m s by (cmds.Subscribe p)).stamp (reply_to_cmd m s by (cmds.Subscribe p)).said acts) (sym at) (subscribed (m.keep s.indexes p) v e)
      opened_cmd place (cmds.Take feed most) at v e = tt
      opened_cmd place (cmds.Unsubscribe feed) at v e = tt
      opened_cmd place cmds.Shut at v e = tt
      opened_cmd place cmds.Sync at v e = tt

    opened_from : (o : Tab) (history : Noted) (by : ℕ) → Low o.place o.feeds → (acts : List Deed) (pre rest : Noted) (t : Tab) (at : ℕ) → history ≡ pre ++ rest → at ≡ length pre → t ≡ replay of_table o pre → WovenTo of_table ends_any t by at acts rest → AllOpened m holds o history acts
    opened_from o history by f [] pre rest t at e n s w = tt
    opened_from o history by f (Looked p q x ∷ acts) pre rest t at e n s w =
        opened_from o history by f acts (pre ++ (w.0 ++ [])) w.1 (replay of_table t (w.0 ++ [])) (at + length (w.0 ++ [])) (e ∙ ap (λ z. pre ++ z) w.2 ∙ sym (append_assoc pre (w.0 ++ []) w.1)) (omega (arith, n, length-append pre (w.0 ++ [])))
        (ap (λ z. replay of_table z (w.0 ++ [])) s ∙ sym (replay_append of_table o pre (w.0 ++ []))) w.6
    opened_from o history by f (Denied p ∷ acts) pre rest t at e n s w =
        opened_from o history by f acts (pre ++ (w.0 ++ [])) w.1 (replay of_table t (w.0 ++ [])) (at + length (w.0 ++ [])) (e ∙ ap (λ z. pre ++ z) w.2 ∙ sym (append_assoc pre (w.0 ++ []) w.1)) (omega (arith, n, length-append pre (w.0 ++ [])))
        (ap (λ z. replay of_table z (w.0 ++ [])) s ∙ sym (replay_append of_table o pre (w.0 ++ []))) w.6
    opened_from o history by f (Ran p order reply ∷ acts) pre rest t at e n s w =
        let all : Noted = w.0 ++ entries_of of_table by (Ran p order reply) in
        let a : After m ends_any by t at p acts rest order.cmd reply = ran m ends_any by t at p order reply acts rest w in
        let s1 : Tab = replay of_table t a.others in
        let back : s1 ≡ replay of_table o (pre ++ a.others) = ap (λ z. replay of_table z a.others) s ∙ sym (replay_append of_table o pre a.others) in
        let front : history ≡ (pre ++ a.others) ++ (a.entry ++ a.rest) =
        e ∙ ap (λ z. pre ++ z) (a.shape ∙ append_assoc a.others a.entry a.rest) ∙ sym (append_assoc pre a.others (a.entry ++ a.rest)) in
        let far : p ≡ length (pre ++ a.others) = omega (arith, a.stands, n, length-append pre a.others) in
        let found : take p history ≡ pre ++ a.others = (λ i. take (far i) (front i)) ∙ take-append_seam (pre ++ a.others) (a.entry ++ a.rest) in
        let pre3 : Noted = pre ++ (a.others ++ a.entry) in
        let whole : history ≡ pre3 ++ a.rest = e ∙ ap (λ z. pre ++ z) a.shape ∙ sym (append_assoc pre (a.others ++ a.entry) a.rest) in
        let leads : after_cmd m s1 by order.cmd ≡ replay of_table o pre3 = sym a.leads ∙ ap (λ z. replay of_table z a.entry) back ∙ sym (replay_append of_table o (pre ++ a.others) a.entry) ∙ ap (λ z. replay of_table o z) (append_assoc pre a.others a.entry) in (
          subst (λ z. OpenedCmd m holds o history p order.cmd z acts) (sym a.answered)
              (opened_cmd o history by s1 (subst (λ (z : Tab). Low z.place z.feeds) (sym back) (replay_low m o (pre ++ a.others) f)) acts pre3 a.rest a.place whole p order.cmd (ap (λ z. replay of_table o z) found ∙ sym back) a.woven leads),
          opened_from o history by f acts (pre ++ all) w.1 (replay of_table t all) (at + length all) (e ∙ ap (λ z. pre ++ z) w.2 ∙ sym (append_assoc pre all w.1)) (omega (arith, n, length-append pre all))
              (ap (λ z. replay of_table z all) s ∙ sym (replay_append of_table o pre all)) w.6,
        )

    of_all_opened : OfAllOpened m holds
    of_all_opened o before during later by acts none w =
        opened_from o (before ++ (during ++ later)) by (subst (λ z. Low o.place z) (sym none) tt) acts before (during ++ later) (replay of_table o before) (length before) refl refl refl
        (woven_longer of_table (replay of_table o before) by (length before) acts during later w)

  pub takes_tell_skips : TakesTellSkips m
  takes_tell_skips = of_all_opened (λ k items ts. AreTold m k 0 [] items ts) told_from

  pub takes_lie_in_order : TakesLieInOrder m
  takes_lie_in_order = of_all_opened (λ k items ts. AllByRecursion (λ (t : Taking M I). IsCounted t) ts → AreLaid m k ts items)
      (λ ends by at t f acts history found none zero last w c. laid f.kept (takings f.number acts) 0 [] (appended m f.kept t.docs t.stamp (changes_from m t history)) c (told_from ends by at t f acts history found none zero last w))
