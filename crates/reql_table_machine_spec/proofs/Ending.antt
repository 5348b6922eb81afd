-- The feeds that are open after a command.
use Rattle.std.proofs.Common.{◌≡◌, ◌⊎◌, inl, inr, ℕ, suc, ◌-◌, ◌^◌, true, false, cond, not, ◌&&◌, ◌||◌, List, [], ◌∷◌, ◌++◌, length, map, filter, Option, Some, None, refl, ap, ◌∙◌}
use Rattle.std.specs.Prelude.{nat_lt}
use Rattle.reql_table_machine_spec.specs.Feeding.{Feeding}
use Rattle.reql_table_machine_spec.specs.Feeds.{Feed, Table, is_of, find_feed, notice, after_change, after_changes, new_feed, opened_in, opens, left_by, unless_shut, closes, adds, is_past, if_room, effect, one_more, answer}
use Rattle.reql_table_machine_spec.specs.Telling.{HasRoom}
use Rattle.reql_table_machine_spec.specs.Ending.{LooksTellTheTable, emptied, is_open, open_in, OpensSo, ClosesSo, FeedsComeAndGo, MayClose, UnsubscribesAreTold}
use Rattle.reql_table_machine_spec.specs.declared.command.Cmd.TheVariants as cmds
use Rattle.reql_table_machine_spec.specs.declared.command.Said.{Said}
use Rattle.reql_table_machine_spec.specs.declared.command.Said.TheVariants as said
use Rattle.reql_table_machine_spec.proofs.Placing.{past, within}
use Rattle.reql_table_machine_spec.proofs.Tracking.{Same, split, same_pushes}

module _ {K I : Type 0} where
  same_emptied : (f g : Feed K I) → Same f g → emptied g ≡ emptied f
  same_emptied f g s = λ i. record { owner = s.owner i; number = s.number i; kept = s.kept i; opened = s.opened i; queue = []; skipped = 0; last = 0 }

  map_emptied : (h : Feed K I → Feed K I) → ((f : Feed K I) → emptied (h f) ≡ emptied f) → (fs : List (Feed K I)) → map emptied (map h fs) ≡ map emptied fs
  map_emptied h e [] = refl
  map_emptied h e (f ∷ fs) = λ i. e f i ∷ map_emptied h e fs i

  append_emptied : (fs gs : List (Feed K I)) → map emptied (fs ++ gs) ≡ map emptied fs ++ map emptied gs
  append_emptied [] gs = refl
  append_emptied (f ∷ fs) gs = ap (λ z. emptied f ∷ z) (append_emptied fs gs)

  abbrev others : ℕ → ℕ → List (Feed K I) → List (Feed K I)
  others by feed fs = filter (λ f. not (is_of by feed f)) fs

  others_emptied : (by feed : ℕ) (fs : List (Feed K I)) → map emptied (others by feed fs) ≡ others by feed (map emptied fs)
  others_emptied by feed [] = refl
  others_emptied by feed (f ∷ fs) =
      split (not (is_of by feed f)) (λ b. map emptied (cond b (f ∷ others by feed fs) (others by feed fs)) ≡ cond b (emptied f ∷ others by feed (map emptied fs)) (others by feed (map emptied fs)))
      (λ _. ap (λ z. emptied f ∷ z) (others_emptied by feed fs)) (λ _. others_emptied by feed fs)

  -- a feed that isn't found
  unfound : (by feed : ℕ) (fs : List (Feed K I)) → find_feed by feed fs ≡ None → (others by feed fs ≡ fs) × (is_open by feed fs ≡ false)
  unfound by feed [] e = (refl, refl)
  unfound by feed (f ∷ fs) e =
      split (is_of by feed f) (λ b. cond b (Some f) (find_feed by feed fs) ≡ None → (cond (not b) (f ∷ others by feed fs) (others by feed fs) ≡ f ∷ fs) × ((b || is_open by feed fs) ≡ false))
      (λ _ x. absurd (let y : Some f ≡ None = x in cc)) (λ _ x. (ap (λ z. f ∷ z) (unfound by feed fs x).0, (unfound by feed fs x).1)) e

  found : (by feed : ℕ) (fs : List (Feed K I)) (g : Feed K I) → find_feed by feed fs ≡ Some g → is_open by feed fs ≡ true
  found by feed [] g e = absurd (let y : None ≡ Some g = e in cc)
  found by feed (f ∷ fs) g e =
      split (is_of by feed f) (λ b. cond b (Some f) (find_feed by feed fs) ≡ Some g → (b || is_open by feed fs) ≡ true) (λ _ x. refl) (λ _ x. found by feed fs g x) e

module _ {D J W N P M X K I F : Type 0} (m : Feeding D J W N P M X K I F) where
  abbrev T : Type 0
  T = Table D J K I

  changes_emptied : (xs : List X) (t : T) → open_in m (after_changes m t xs) ≡ open_in m t
  changes_emptied [] t = refl
  changes_emptied (x ∷ xs) t = changes_emptied xs (after_change m t x)
      ∙ map_emptied (notice m t.docs t.stamp x) (λ f. same_emptied f _ (same_pushes (m.size f.kept) f (map (λ i. (suc t.stamp, i)) (m.items f.kept t.docs x)))) t.feeds

  -- after a command that leaves the feeds, whether it adds an entry or not
  kept_open : (s : Said M I) (t v : T) → open_in m v ≡ open_in m t → open_in m (cond (adds m s) v t) ≡ open_in m t
  kept_open s t v e = split (adds m s) (λ b. open_in m (cond b v t) ≡ open_in m t) (λ _. e) (λ _. refl)

  -- ---- a Subscribe
  abbrev Opens : T → ℕ → Option K → T → Said M I → Type 0
  Opens t by kept v s = OpensSo m t (cond (adds m s) v t) by kept s

  opens_unless_full : (t : T) (by : ℕ) (kept : Option K) (v : T) (s : Said M I) → Opens t by kept v s → Opens t by kept v (if_room m v s)
  opens_unless_full t by kept v s h = split (adds m s && is_past m v) (λ b. Opens t by kept v (cond b (said.HistoryFull (2 ^ 64 - 1)) s)) (λ _. refl) (λ _. h)

  opens_so : (t : T) (by : ℕ) (kept : Option K) → Opens t by kept (one_more m (opened_in m t by kept)) (if_room m (one_more m (opened_in m t by kept)) (unless_shut m t (opens m t kept)))
  opens_so t by kept = split t.shut (λ b. Opens t by kept (one_more m (opened_in m t by kept)) (if_room m (one_more m (opened_in m t by kept)) (cond b said.Gone (opens m t kept)))) (λ _. refl) (λ _. still kept)
    where
      still : (kept : Option K) → Opens t by kept (one_more m (opened_in m t by kept)) (if_room m (one_more m (opened_in m t by kept)) (opens m t kept))
      still None = opens_unless_full t by None (one_more m t) said.IndexMissing refl
      still (Some k) =
          split (nat_lt (length t.feeds) m.most)
          (λ b. Opens t by (Some k) (one_more m (cond b (record t { feeds = t.feeds ++ new_feed m t by k ∷ [] }) t))
          (if_room m (one_more m (cond b (record t { feeds = t.feeds ++ new_feed m t by k ∷ [] }) t)) (cond b (said.Opened (suc t.place) (m.opening k t.docs)) (said.FeedsFull m.most))))
          (λ _. opens_unless_full t by (Some k) (one_more m (record t { feeds = t.feeds ++ new_feed m t by k ∷ [] })) (said.Opened (suc t.place) (m.opening k t.docs))
          (record { held = k; is_kept = refl; feeds = append_emptied t.feeds (new_feed m t by k ∷ []) }))
          (λ _. opens_unless_full t by (Some k) (one_more m t) (said.FeedsFull m.most) refl)

  -- ---- an Unsubscribe
  abbrev without : T → ℕ → ℕ → T
  without t by feed = one_more m (record t { feeds = filter (λ f. not (is_of by feed f)) t.feeds })

  abbrev Closes : T → ℕ → ℕ → Said M I → Type 0
  Closes t by feed s = ClosesSo m t (cond (adds m s) (without t by feed) t) by feed s

  closes_unless_full : (t : T) (by feed : ℕ) (s : Said M I) → Closes t by feed s → Closes t by feed (if_room m (without t by feed) s)
  closes_unless_full t by feed s h = split (adds m s && is_past m (without t by feed)) (λ b. Closes t by feed (cond b (said.HistoryFull (2 ^ 64 - 1)) s)) (λ _. refl) (λ _. h)

  closes_so : (t : T) (by feed : ℕ) (o : Option (Feed K I)) → find_feed by feed t.feeds ≡ o → Closes t by feed (if_room m (without t by feed) (closes m t feed o))
  closes_so t by feed None e =
      split t.shut (λ b. Closes t by feed (if_room m (without t by feed) (cond b said.Gone (said.FeedUnknown feed)))) (λ _. refl)
      (λ _. closes_unless_full t by feed (said.FeedUnknown feed) (ap (λ z. map emptied z) (unfound by feed t.feeds e).0))
  closes_so t by feed (Some f) e = closes_unless_full t by feed said.Closed (others_emptied by feed t.feeds)

  pub feeds_come_and_go : FeedsComeAndGo m
  feeds_come_and_go t by (cmds.Write w) = kept_open (answer m t by (cmds.Write w)) t (one_more m (effect m t by (cmds.Write w))) (changes_emptied (m.changes t.docs t.indexes w) t)
  feeds_come_and_go t by (cmds.Index n) = kept_open (answer m t by (cmds.Index n)) t (one_more m (effect m t by (cmds.Index n))) refl
  feeds_come_and_go t by (cmds.Subscribe p) = opens_so t by (m.keep t.indexes p)
  feeds_come_and_go t by (cmds.Take feed most) = kept_open (answer m t by (cmds.Take feed most)) t (one_more m (effect m t by (cmds.Take feed most)))
      (map_emptied (λ f. cond (is_of by feed f) (left_by m most f) f) (λ f. split (is_of by feed f) (λ b. emptied (cond b (left_by m most f) f) ≡ emptied f) (λ _. refl) (λ _. refl)) t.feeds)
  feeds_come_and_go t by (cmds.Unsubscribe feed) = closes_so t by feed (find_feed by feed t.feeds) refl
  feeds_come_and_go t by cmds.Shut = kept_open (answer m t by cmds.Shut) t (one_more m (effect m t by cmds.Shut)) refl
  feeds_come_and_go t by cmds.Sync = kept_open (answer m t by cmds.Sync) t (one_more m (effect m t by cmds.Sync)) refl

  -- ---- what an Unsubscribe is answered
  full_or : (t : T) (by feed : ℕ) (s : Said M I) → (is_open by feed t.feeds ≡ true) ⊎ (t.shut ≡ false) → (HasRoom m t → MayClose m t by feed s)
      → MayClose m t by feed (cond (nat_lt (2 ^ 64 - 1) (suc t.place) || nat_lt (2 ^ 64 - 1) t.stamp) (said.HistoryFull (2 ^ 64 - 1)) s)
  full_or t by feed s there h = split (nat_lt (2 ^ 64 - 1) (suc t.place) || nat_lt (2 ^ 64 - 1) t.stamp) (λ b. MayClose m t by feed (cond b (said.HistoryFull (2 ^ 64 - 1)) s))
      (λ e. (there, past (2 ^ 64 - 1) t.place t.stamp e, refl)) (λ e. h (within (2 ^ 64 - 1) t.place t.stamp e))

  may_close : (t : T) (by feed : ℕ) (o : Option (Feed K I)) → find_feed by feed t.feeds ≡ o → MayClose m t by feed (if_room m (without t by feed) (closes m t feed o))
  may_close t by feed None e =
      split t.shut (λ b. MayClose m t by feed (if_room m (without t by feed) (cond b said.Gone (said.FeedUnknown feed)))) (λ shut. ((unfound by feed t.feeds e).1, shut))
      (λ still. full_or t by feed (said.FeedUnknown feed) (inr still) (λ r. ((unfound by feed t.feeds e).1, still, refl, r)))
  may_close t by feed (Some f) e = full_or t by feed said.Closed (inl (found by feed t.feeds f e)) (λ r. (found by feed t.feeds f e, r))

  pub unsubscribes_are_told : UnsubscribesAreTold m
  unsubscribes_are_told t by feed = may_close t by feed (find_feed by feed t.feeds) refl

  -- ---- a look
  pub looks_tell_the_table : LooksTellTheTable m
  looks_tell_the_table t = record {
    place = refl;
    stamp = refl;
    there = λ e. ap (λ b. cond b None (Some (t.docs, t.indexes))) e;
    gone = λ e. ap (λ b. cond b None (Some (t.docs, t.indexes))) e;
  }
