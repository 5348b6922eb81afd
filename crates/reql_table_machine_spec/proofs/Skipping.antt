-- A skip comes only from a full queue, and counts what was dropped.
use Rattle.std.proofs.Common.{◌≡◌, ◌≢◌, ◌≤◌, ◌<◌, ℕ, zero, suc, ◌+◌, ◌-◌, ◌^◌, min, max, Bool, false, cond, not, List, [], ◌∷◌, ◌++◌, length, map, filter, take, drop, Option, Some, None, refl, sym, ap, subst, ◌∙◌, arith, append_assoc, append-nil, length-append}
use Rattle.std.specs.List.{AllByRecursion}
use Rattle.std.specs.Prelude.{nat_lt, nat_eq}
use Rattle.std.proofs.Math.Seq.{take-append_seam, drop-append_seam}
use Rattle.std.proofs.lemmas.Bool.{ltb-true, ltb-false, eq-eqb, both_ways}
use Rattle.reql_table_machine_spec.specs.Feeding.{Feeding, appended}
use Rattle.reql_table_machine_spec.specs.Feeds.{Feed, Table, dropping, push, push_all, is_of, find_feed, notice, after_change, after_changes, opened_in, new_feed, left_by, effect, one_more, adds, answer, after, after_cmd, table_machine}
use Rattle.reql_table_machine_spec.specs.Fed.{changes_by, changes_at, changes_from}
use Rattle.reql_table_machine_spec.specs.Skips.{last_stamp, excess, pushed, Fits, Full, names_feed, OldestAreSkipped, SkipsCount, NothingIsSkipped, SkipsOfFullQueues, SkipsBetweenTakes}
use Rattle.reql_table_machine_spec.specs.declared.command.Cmd.{Cmd}
use Rattle.reql_table_machine_spec.specs.declared.command.Cmd.TheVariants as cmds
use Rattle.reql_table_machine_spec.specs.declared.command.Order.{Order}
use Rattle.reql_shared.specs.declared.recorded.Recorded.{Recorded}
use Rattle.reql_shared.specs.Machine.{replay}
use Rattle.reql_table_machine_spec.proofs.Items.{all_append, appended_append}
use Rattle.reql_table_machine_spec.proofs.Reach.{after_docs}
use Rattle.reql_table_machine_spec.proofs.Tracking.{split, Leaves, Same, same_pushes, find_map, find_end, find_other, find_kept}

module _ {I : Type 0} where
  last_append : (n : ℕ) (xs ys : List (ℕ × I)) → last_stamp n (xs ++ ys) ≡ last_stamp (last_stamp n xs) ys
  last_append n [] ys = refl
  last_append n (x ∷ xs) ys = last_append x.0 xs ys

module _ {K I : Type 0} where
  -- a feed after some items came, with those that were dropped
  pub record Drops (size : ℕ) (f : Feed K I) (ps : List (ℕ × I)) (g : Feed K I) : Type 0 where
    pub dropped : List (ℕ × I)
    pub whole : f.queue ++ ps ≡ dropped ++ g.queue
    pub many : length dropped ≡ excess size f ps
    pub skips : g.skipped ≡ min (f.skipped + length dropped) (2 ^ 64 - 1)
    pub tells : g.last ≡ last_stamp f.last dropped

  none_drop : (size : ℕ) (f : Feed K I) → Fits size f → Drops size f [] f
  none_drop size f h = record {
    dropped = [];
    whole = append-nil f.queue;
    many = omega (arith, h.queued);
    skips = omega (arith, h.counted);
    tells = refl;
  }

  -- what is left is within the size again
  pub left_fits : (size : ℕ) (f : Feed K I) (ps : List (ℕ × I)) (g : Feed K I) → Fits size f → Drops size f ps g → Fits size g
  left_fits size f ps g h d =
      let long : length f.queue + length ps ≡ length d.dropped + length g.queue = sym (length-append f.queue ps) ∙ ap length d.whole ∙ length-append d.dropped g.queue in
      record { queued = omega (arith, d.many, long, h.queued); counted = omega (arith, d.skips) }

  pub drops_on : (size : ℕ) (f : Feed K I) (ps qs : List (ℕ × I)) (g i : Feed K I) → Fits size f → Drops size f ps g → Drops size g qs i → Drops size f (ps ++ qs) i
  drops_on size f ps qs g i h c d =
      let long : length f.queue + length ps ≡ length c.dropped + length g.queue = sym (length-append f.queue ps) ∙ ap length c.whole ∙ length-append c.dropped g.queue in
      let both : length (c.dropped ++ d.dropped) ≡ length c.dropped + length d.dropped = length-append c.dropped d.dropped in
      record {
        dropped = c.dropped ++ d.dropped;
        whole = sym (append_assoc f.queue ps qs) ∙ ap (λ z. z ++ qs) c.whole ∙ append_assoc c.dropped g.queue qs ∙ ap (λ z. c.dropped ++ z) d.whole ∙ sym (append_assoc c.dropped d.dropped i.queue);
        many = omega (arith, both, long, c.many, d.many, length-append ps qs, h.queued);
        skips = omega (arith, both, c.skips, d.skips, h.counted);
        tells = d.tells ∙ ap (λ z. last_stamp z d.dropped) c.tells ∙ sym (last_append f.last c.dropped d.dropped);
      }

  full_drops : (size : ℕ) (f : Feed K I) (p : ℕ × I) → Fits size f → size ≤ length f.queue → (q : List (ℕ × I)) → f.queue ≡ q → Drops size f (p ∷ []) (dropping f q p)
  full_drops size f p h le [] e = record {
    dropped = [];
    whole = ap (λ z. z ++ p ∷ []) e;
    many = omega (arith, le, ap length e);
    skips = omega (arith, h.counted);
    tells = refl;
  }
  full_drops size f p h le (o ∷ q) e = record {
    dropped = o ∷ [];
    whole = ap (λ z. z ++ p ∷ []) e;
    many = omega (arith, le, ap length e, h.queued);
    skips = omega arith;
    tells = refl;
  }

  push_drops : (size : ℕ) (f : Feed K I) (p : ℕ × I) → Fits size f → Drops size f (p ∷ []) (push size f p)
  push_drops size f p h = split (nat_lt (length f.queue) size) (λ b. nat_lt (length f.queue) size ≡ b → Drops size f (p ∷ []) (cond b (record f { queue = f.queue ++ p ∷ [] }) (dropping f f.queue p)))
      (λ _ t. let lt : length f.queue < size = ltb-true (length f.queue) size t in
      record {
        dropped = [];
        whole = refl;
        many = omega (arith, lt);
        skips = omega (arith, h.counted);
        tells = refl;
      })
      (λ _ u. let le : size ≤ length f.queue = ltb-false (length f.queue) size u in full_drops size f p h le f.queue refl)
      refl

  pub pushes_drop : (size : ℕ) (f : Feed K I) (ps : List (ℕ × I)) → Fits size f → Drops size f ps (push_all size f ps)
  pushes_drop size f [] h = none_drop size f h
  pushes_drop size f (p ∷ ps) h =
      let one : Drops size f (p ∷ []) (push size f p) = push_drops size f p h in
      drops_on size f (p ∷ []) ps (push size f p) (push_all size (push size f p) ps) h one (pushes_drop size (push size f p) ps (left_fits size f (p ∷ []) (push size f p) h one))

  -- the parts of the feed, by how many were dropped
  dropped_is : (size : ℕ) (f : Feed K I) (ps : List (ℕ × I)) (g : Feed K I) → (d : Drops size f ps g) → take (excess size f ps) (f.queue ++ ps) ≡ d.dropped
  dropped_is size f ps g d = ap (λ n. take n (f.queue ++ ps)) (sym d.many) ∙ ap (λ l. take (length d.dropped) l) d.whole ∙ take-append_seam d.dropped g.queue

  queue_is : (size : ℕ) (f : Feed K I) (ps : List (ℕ × I)) (g : Feed K I) → Drops size f ps g → g.queue ≡ drop (excess size f ps) (f.queue ++ ps)
  queue_is size f ps g d = sym (ap (λ n. drop n (f.queue ++ ps)) (sym d.many) ∙ ap (λ l. drop (length d.dropped) l) d.whole ∙ drop-append_seam d.dropped g.queue)

  skipped_is : (size : ℕ) (f : Feed K I) (ps : List (ℕ × I)) (g : Feed K I) → Drops size f ps g → g.skipped ≡ min (f.skipped + excess size f ps) (2 ^ 64 - 1)
  skipped_is size f ps g d = d.skips ∙ ap (λ n. min (f.skipped + n) (2 ^ 64 - 1)) d.many

  last_is : (size : ℕ) (f : Feed K I) (ps : List (ℕ × I)) (g : Feed K I) → Drops size f ps g → g.last ≡ last_stamp f.last (take (excess size f ps) (f.queue ++ ps))
  last_is size f ps g d = d.tells ∙ ap (λ l. last_stamp f.last l) (sym (dropped_is size f ps g d))

  feed_is : (f g : Feed K I) (q : List (ℕ × I)) (s l : ℕ) → Same f g → g.queue ≡ q → g.skipped ≡ s → g.last ≡ l → g ≡ record f { queue = q; skipped = s; last = l }
  feed_is f g q s l e a b c = λ i. record { owner = e.owner i; number = e.number i; kept = e.kept i; opened = e.opened i; queue = a i; skipped = b i; last = c i }

  pub pushes_are : (size : ℕ) (f : Feed K I) (ps : List (ℕ × I)) → Fits size f → push_all size f ps ≡ pushed size f ps
  pushes_are size f ps h =
      let d : Drops size f ps (push_all size f ps) = pushes_drop size f ps h in
      feed_is f (push_all size f ps) _ _ _ (same_pushes size f ps) (queue_is size f ps _ d) (skipped_is size f ps _ d) (last_is size f ps _ d)

  pub pushes_count : (size : ℕ) (f : Feed K I) (ps : List (ℕ × I)) → Fits size f → f.skipped + excess size f ps ≤ 2 ^ 64 - 1
      → length (push_all size f ps).queue + (push_all size f ps).skipped ≡ length f.queue + f.skipped + length ps
  pushes_count size f ps h le =
      let d : Drops size f ps (push_all size f ps) = pushes_drop size f ps h in
      let long : length f.queue + length ps ≡ length d.dropped + length (push_all size f ps).queue = sym (length-append f.queue ps) ∙ ap length d.whole ∙ length-append d.dropped (push_all size f ps).queue in
      omega (arith, long, d.many, d.skips, le)

  pushes_append : (size : ℕ) (f : Feed K I) (ps qs : List (ℕ × I)) → push_all size f (ps ++ qs) ≡ push_all size (push_all size f ps) qs
  pushes_append size f [] qs = refl
  pushes_append size f (p ∷ ps) qs = pushes_append size (push size f p) ps qs

  -- a queue with room takes an item
  roomy : (size : ℕ) (f : Feed K I) (p : ℕ × I) → length f.queue < max 1 size → push size f p ≡ record f { queue = f.queue ++ p ∷ [] }
  roomy size f p lt = split (nat_lt (length f.queue) size) (λ b. nat_lt (length f.queue) size ≡ b → cond b (record f { queue = f.queue ++ p ∷ [] }) (dropping f f.queue p) ≡ record f { queue = f.queue ++ p ∷ [] })
      (λ _ t. refl) (λ _ u. let le : size ≤ length f.queue = ltb-false (length f.queue) size u in empty f.queue refl le) refl
    where
      empty : (q : List (ℕ × I)) → f.queue ≡ q → size ≤ length f.queue → dropping f q p ≡ record f { queue = f.queue ++ p ∷ [] }
      empty [] e le = λ i. record f { queue = sym e i ++ p ∷ [] }
      empty (o ∷ q) e le = absurd (omega (arith, lt, le, ap length e))

  pub pushes_room : (size : ℕ) (f : Feed K I) (ps : List (ℕ × I)) → length f.queue + length ps ≤ max 1 size → push_all size f ps ≡ record f { queue = f.queue ++ ps }
  pushes_room size f [] le = λ i. record f { queue = sym (append-nil f.queue) i }
  pushes_room size f (p ∷ ps) le =
      ap (λ g. push_all size g ps) (roomy size f p (omega (arith, le)))
      ∙ pushes_room size (record f { queue = f.queue ++ p ∷ [] }) ps (omega (arith, le, length-append f.queue (p ∷ [])))
      ∙ (λ i. record f { queue = append_assoc f.queue (p ∷ []) ps i })

  -- a feed with a skip to tell still has a full queue after more items
  pub pushes_full : (size : ℕ) (f : Feed K I) (ps : List (ℕ × I)) → Full size f → Full size (push_all size f ps)
  pushes_full size f ps h =
      let d : Drops size f ps (push_all size f ps) = pushes_drop size f ps h.fits in
      let g : Feed K I = push_all size f ps in
      let long : length f.queue + length ps ≡ length d.dropped + length g.queue = sym (length-append f.queue ps) ∙ ap length d.whole ∙ length-append d.dropped g.queue in
      record { fits = left_fits size f ps g h.fits d; full = full g d long }
    where
      clean : (s : ℕ) → (s ≢ 0 → length f.queue ≡ max 1 size) → f.skipped ≡ s → (g : Feed K I) (d : Drops size f ps g) → length f.queue + length ps ≡ length d.dropped + length g.queue → g.skipped ≢ 0 → length g.queue ≡ max 1 size
      clean zero k e g d long n = some (length d.dropped) refl
        where
          some : (j : ℕ) → length d.dropped ≡ j → length g.queue ≡ max 1 size
          some zero z = absurd (n (omega (arith, d.skips, z, e)))
          some (suc j) z = omega (arith, d.many, z, long)
      clean (suc s) k e g d long n =
          let was : length f.queue ≡ max 1 size = k (λ z. absurd (omega (arith, z))) in
          omega (arith, was, d.many, long)

      full : (g : Feed K I) (d : Drops size f ps g) → length f.queue + length ps ≡ length d.dropped + length g.queue → g.skipped ≢ 0 → length g.queue ≡ max 1 size
      full g d long n = clean f.skipped h.full refl g d long n

module _ {D J W N P M X K I F : Type 0} (m : Feeding D J W N P M X K I F) where
  abbrev T : Type 0
  T = Table D J K I

  pub oldest_are_skipped : OldestAreSkipped m
  oldest_are_skipped size f ps h = pushes_are size f ps h

  pub skips_count : SkipsCount m
  skips_count size f ps h le = pushes_count size f ps h le

  pub nothing_is_skipped : NothingIsSkipped m
  nothing_is_skipped size f ps le = pushes_room size f ps le

  -- every feed with a skip to tell has a full queue
  abbrev IsFull : Feed K I → Type 0
  IsFull f = Full (m.size f.kept) f

  abbrev AllFull : List (Feed K I) → Type 0
  AllFull fs = AllByRecursion (λ (f : Feed K I). Full (m.size f.kept) f) fs

  full_map : (h : Feed K I → Feed K I) → ((f : Feed K I) → IsFull f → IsFull (h f)) → (fs : List (Feed K I)) → AllFull fs → AllFull (map h fs)
  full_map h s [] a = tt
  full_map h s (f ∷ fs) a = (s f a.0, full_map h s fs a.1)

  full_filter : (p : Feed K I → Bool) (fs : List (Feed K I)) → AllFull fs → AllFull (filter p fs)
  full_filter p [] a = tt
  full_filter p (f ∷ fs) a = split (p f) (λ c. AllFull (cond c (f ∷ filter p fs) (filter p fs))) (λ _. (a.0, full_filter p fs a.1)) (λ _. full_filter p fs a.1)

  full_notice : (d : D) (n : ℕ) (x : X) (f : Feed K I) → IsFull f → IsFull (notice m d n x f)
  full_notice d n x f h =
      let is : List (ℕ × I) = map (λ i. (suc n, i)) (m.items f.kept d x) in
      subst (λ k. Full (m.size k) (push_all (m.size f.kept) f is)) (sym (same_pushes (m.size f.kept) f is).kept) (pushes_full (m.size f.kept) f is h)

  changes_full : (xs : List X) (t : T) → AllFull t.feeds → AllFull (after_changes m t xs).feeds
  changes_full [] t a = a
  changes_full (x ∷ xs) t a = changes_full xs (after_change m t x) (full_map (notice m t.docs t.stamp x) (full_notice t.docs t.stamp x) t.feeds a)

  -- a Take leaves nothing to tell
  full_left : (max : ℕ) (f : Feed K I) → IsFull f → IsFull (left_by m max f)
  full_left most f h = record {
    fits = record { queued = split (m.squashes f.kept) (λ b. length (cond b [] (drop most f.queue)) ≤ max 1 (m.size f.kept)) (λ _. omega arith) (λ _. shorter most f.queue h.fits.queued); counted = omega arith };
    full = λ n. absurd (n refl);
  }
    where
      shorter : (n : ℕ) (q : List (ℕ × I)) {b : ℕ} → length q ≤ b → length (drop n q) ≤ b
      shorter zero q le = le
      shorter (suc n) [] le = le
      shorter (suc n) (p ∷ q) le = shorter n q (omega (arith, le))

  effect_full : (t : T) (who : ℕ) (cmd : Cmd W N P) → AllFull t.feeds → AllFull (effect m t who cmd).feeds
  effect_full t who (cmds.Write w) a = changes_full (m.changes t.docs t.indexes w) t a
  effect_full t who (cmds.Index j) a = a
  effect_full t who (cmds.Subscribe p) a = opened (m.keep t.indexes p)
    where
      fresh : (k : K) → IsFull (new_feed m t who k)
      fresh k = record { fits = record { queued = omega arith; counted = omega arith }; full = λ n. absurd (n refl) }

      opened : (o : Option K) → AllFull (opened_in m t who o).feeds
      opened None = a
      opened (Some k) = split (nat_lt (length t.feeds) m.most) (λ b. AllFull (cond b (record t { feeds = t.feeds ++ new_feed m t who k ∷ [] }) t).feeds)
          (λ _. all_append (λ (f : Feed K I). Full (m.size f.kept) f) t.feeds (new_feed m t who k ∷ []) a (fresh k, tt)) (λ _. a)
  effect_full t who (cmds.Take feed max) a = full_map (λ f. cond (is_of who feed f) (left_by m max f) f) (λ f h. split (is_of who feed f) (λ b. IsFull (cond b (left_by m max f) f)) (λ _. full_left max f h) (λ _. h)) t.feeds a
  effect_full t who (cmds.Unsubscribe feed) a = full_filter (λ f. not (is_of who feed f)) t.feeds a
  effect_full t who cmds.Shut a = a
  effect_full t who cmds.Sync a = a

  after_full : (t : T) (who : ℕ) (cmd : Cmd W N P) → AllFull t.feeds → AllFull (after_cmd m t who cmd).feeds
  after_full t who cmd a = split (adds m (answer m t who cmd)) (λ b. AllFull (cond b (one_more m (effect m t who cmd)) t).feeds) (λ _. effect_full t who cmd a) (λ _. a)

  history_full : (history : List (Recorded (Order (Cmd W N P)))) (t : T) → AllFull t.feeds → AllFull (replay (table_machine m) t history).feeds
  history_full [] t a = a
  history_full (e ∷ es) t a = history_full es (after m t e.by e.cmd) (after_full t e.by e.cmd.cmd a)

  pub skips_of_full_queues : SkipsOfFullQueues m
  skips_of_full_queues o history none = history_full history o (subst (λ fs. AllFull fs) (sym none) tt)

  -- a feed that no command of its owner names, after what the changes of a history append to it
  abbrev pub grown : Feed K I → D → ℕ → List X → Feed K I
  grown f d n xs = push_all (m.size f.kept) f (appended m f.kept d n xs)

  pub grown_kept : (f : Feed K I) (d : D) (n : ℕ) (xs : List X) → (grown f d n xs).kept ≡ f.kept
  grown_kept f d n xs = (same_pushes (m.size f.kept) f (appended m f.kept d n xs)).kept

  grown_on : (f g : Feed K I) (ps : List (ℕ × I)) (d : D) (n : ℕ) (xs : List X) → g ≡ push_all (m.size f.kept) f ps → g.kept ≡ f.kept → grown g d n xs ≡ push_all (m.size f.kept) f (ps ++ appended m f.kept d n xs)
  grown_on f g ps d n xs e k = (λ i. push_all (m.size (k i)) g (appended m (k i) d n xs)) ∙ ap (λ h. push_all (m.size f.kept) h (appended m f.kept d n xs)) e ∙ sym (pushes_append (m.size f.kept) f ps (appended m f.kept d n xs))

  changes_found : (by number : ℕ) (xs : List X) (t : T) (f : Feed K I) → find_feed by number t.feeds ≡ Some f → find_feed by number (after_changes m t xs).feeds ≡ Some (grown f t.docs t.stamp xs)
  changes_found by number [] t f e = e
  changes_found by number (x ∷ xs) t f e =
      let same : (g : Feed K I) → Same g (notice m t.docs t.stamp x g) = λ g. same_pushes (m.size g.kept) g (map (λ i. (suc t.stamp, i)) (m.items g.kept t.docs x)) in
      changes_found by number xs (after_change m t x) (notice m t.docs t.stamp x f) (find_map (notice m t.docs t.stamp x) same by number t.feeds f e)
      ∙ ap (λ g. Some g) (grown_on f (notice m t.docs t.stamp x f) (map (λ i. (suc t.stamp, i)) (m.items f.kept t.docs x)) (m.change t.docs x) (suc t.stamp) xs refl (same f).kept)

  leaves_by : (by number who : ℕ) (cmd : Cmd W N P) → (who ≡ by → names_feed number cmd ≡ false) → Leaves by number who cmd
  leaves_by by number who (cmds.Write w) h = tt
  leaves_by by number who (cmds.Index j) h = tt
  leaves_by by number who (cmds.Subscribe p) h = tt
  leaves_by by number who (cmds.Take feed max) h = λ e q. both_ways (nat_eq feed number) (h e) (eq-eqb feed number q)
  leaves_by by number who (cmds.Unsubscribe feed) h = λ e q. both_ways (nat_eq feed number) (h e) (eq-eqb feed number q)
  leaves_by by number who cmds.Shut h = tt
  leaves_by by number who cmds.Sync h = tt

  effect_found : (by number : ℕ) (t : T) (who : ℕ) (cmd : Cmd W N P) (f : Feed K I) → Leaves by number who cmd → find_feed by number t.feeds ≡ Some f
      → find_feed by number (effect m t who cmd).feeds ≡ Some (grown f t.docs t.stamp (changes_by m t cmd))
  effect_found by number t who (cmds.Write w) f v e = changes_found by number (m.changes t.docs t.indexes w) t f e
  effect_found by number t who (cmds.Index j) f v e = e
  effect_found by number t who (cmds.Subscribe p) f v e = opened (m.keep t.indexes p)
    where
      opened : (o : Option K) → find_feed by number (opened_in m t who o).feeds ≡ Some f
      opened None = e
      opened (Some k) = split (nat_lt (length t.feeds) m.most) (λ b. find_feed by number (cond b (record t { feeds = t.feeds ++ new_feed m t who k ∷ [] }) t).feeds ≡ Some f)
          (λ _. find_end by number t.feeds (new_feed m t who k ∷ []) f e) (λ _. e)
  effect_found by number t who (cmds.Take feed max) f v e = find_other (left_by m max) (λ g. record { owner = refl; number = refl; kept = refl; opened = refl }) by number who feed v t.feeds f e
  effect_found by number t who (cmds.Unsubscribe feed) f v e = find_kept by number who feed v t.feeds f e
  effect_found by number t who cmds.Shut f v e = e
  effect_found by number t who cmds.Sync f v e = e

  pub after_found : (by number : ℕ) (t : T) (who : ℕ) (cmd : Cmd W N P) (f : Feed K I) → Leaves by number who cmd → find_feed by number t.feeds ≡ Some f
      → find_feed by number (after_cmd m t who cmd).feeds ≡ Some (grown f t.docs t.stamp (changes_at m t who cmd))
  after_found by number t who cmd f v e = split (adds m (answer m t who cmd)) (λ b. find_feed by number (cond b (one_more m (effect m t who cmd)) t).feeds ≡ Some (grown f t.docs t.stamp (cond b (changes_by m t cmd) [])))
      (λ _. effect_found by number t who cmd f v e) (λ _. e)

  pub history_found : (by number : ℕ) (history : List (Recorded (Order (Cmd W N P)))) (t : T) (f : Feed K I) → find_feed by number t.feeds ≡ Some f
      → AllByRecursion (λ (e : Recorded (Order (Cmd W N P))). e.by ≡ by → names_feed number e.cmd.cmd ≡ false) history
      → find_feed by number (replay (table_machine m) t history).feeds ≡ Some (grown f t.docs t.stamp (changes_from m t history))
  history_found by number [] t f e a = e
  history_found by number (r ∷ rs) t f e a =
      let u : T = after m t r.by r.cmd in
      let xs : List X = changes_at m t r.by r.cmd.cmd in
      let at = after_docs m t r.by r.cmd.cmd in
      history_found by number rs u (grown f t.docs t.stamp xs) (after_found by number t r.by r.cmd.cmd f (leaves_by by number r.by r.cmd.cmd a.0) e) a.1
      ∙ ap (λ g. Some g) (grown_on f (grown f t.docs t.stamp xs) (appended m f.kept t.docs t.stamp xs) u.docs u.stamp (changes_from m u rs) refl (grown_kept f t.docs t.stamp xs)
      ∙ (λ i. push_all (m.size f.kept) f (appended m f.kept t.docs t.stamp xs ++ appended m f.kept (at.0 i) (at.1 i) (changes_from m u rs)))
      ∙ ap (λ ps. push_all (m.size f.kept) f ps) (sym (appended_append m f.kept t.docs t.stamp xs (changes_from m u rs))))

  pub skips_between_takes : SkipsBetweenTakes m
  skips_between_takes t history by number f e h a = history_found by number history t f e a ∙ ap (λ g. Some g) (pushes_are (m.size f.kept) f (appended m f.kept t.docs t.stamp (changes_from m t history)) h)
