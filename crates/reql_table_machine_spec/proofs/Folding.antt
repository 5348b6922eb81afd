-- What a feed's client folds is the feed's value.
use Rattle.std.proofs.Common.{◌≡◌, ◌<◌, ◌≤◌, inl, inr, ℕ, ◌+◌, ◌-◌, ◌^◌, Bool, true, false, cond, not, ◌||◌, List, [], ◌∷◌, ◌++◌, length, map, take, drop, Option, Some, None, refl, sym, ap, subst, ◌∙◌, arith, append_assoc, append-nil}
use Rattle.std.specs.Prelude.{nat_eq}
use Rattle.std.proofs.lemmas.List.{take-append-le, append_cancel_left}
use Rattle.std.proofs.lemmas.Bool.{eqb-true, eq-eqb, not-false, both_ways}
use Rattle.reql_table_machine_spec.specs.Feeding.{Feeding, fold, changed, bare, Comes, Folds}
use Rattle.reql_table_machine_spec.specs.Feeds.{Feed, Table, is_of, find_feed, is_none_queued, has_something, given_by, left_by, effect, one_more, unless_shut, takes, adds, is_past, if_room, answer, after_cmd, reply_to_cmd, table_machine}
use Rattle.reql_shared.specs.Plays.{WovenTo}
use Rattle.reql_table_machine_spec.specs.Fed.{upto, Taking, items_of, tells_skip, given, Decides, Whole, taking_by, is_end, takings, changes_by, changes_at, changes_from, Fed}
use Rattle.reql_table_machine_spec.specs.declared.command.Cmd.{Cmd}
use Rattle.reql_table_machine_spec.specs.declared.command.Cmd.TheVariants as cmds
use Rattle.reql_table_machine_spec.specs.declared.command.Order.{Order}
use Rattle.reql_table_machine_spec.specs.declared.command.Reply.{Reply}
use Rattle.reql_table_machine_spec.specs.declared.command.Look.{Look}
use Rattle.reql_table_machine_spec.specs.declared.command.Said.{Said}
use Rattle.reql_table_machine_spec.specs.declared.command.Said.TheVariants as said
use Rattle.reql_shared.specs.declared.recorded.Recorded.{Recorded}
use Rattle.reql_shared.specs.History.{noted, own}
use Rattle.reql_shared.specs.Machine.{Machine, replay}
use Rattle.reql_shared.specs.Acts.{Act, Ran, Looked, Denied, entries_of}
use Rattle.reql_shared.proofs.Weaving.{replay_append}
use Rattle.reql_table_machine_spec.proofs.Reach.{changes_append}
use Rattle.reql_table_machine_spec.proofs.Items.{Above, all_append, all_left, all_take, all_drop, upto_front}
use Rattle.reql_table_machine_spec.proofs.Tracking.{split, Leaves, Tracked, tracked_step, tracked_others}
use Rattle.reql_table_machine_spec.proofs.Holding.{Held, Settled, Holds, holds_on, IsAbove, above_on, held_left, settled_batch, settled_gone}

module _ {K I : Type 0} where
  -- the feed that was taken from
  pub find_taken : (h : Feed K I → Feed K I) (by number : ℕ) → ((f : Feed K I) → is_of by number (h f) ≡ is_of by number f) → (fs : List (Feed K I)) (f : Feed K I) → find_feed by number fs ≡ Some f → find_feed by number (map (λ g. cond (is_of by number g) (h g) g) fs) ≡ Some (h f)
  find_taken h by number s [] f e = absurd (let e2 : None ≡ Some f = e in cc)
  find_taken h by number s (g ∷ gs) f e =
      split (is_of by number g) (λ b. is_of by number g ≡ b → cond b (Some g) (find_feed by number gs) ≡ Some f → find_feed by number (cond b (h g) g ∷ map (λ g. cond (is_of by number g) (h g) g) gs) ≡ Some (h f))
      (λ _ t e2. ap (λ b. cond b (Some (h g)) (find_feed by number (map (λ g. cond (is_of by number g) (h g) g) gs))) (s g ∙ t) ∙ ap (λ o. some_to o) e2)
      (λ _ t e2. ap (λ b. cond b (Some g) (find_feed by number (map (λ g. cond (is_of by number g) (h g) g) gs))) t ∙ find_taken h by number s gs f e2)
      refl e
    where
      some_to : Option (Feed K I) → Option (Feed K I)
      some_to None = None
      some_to (Some x) = Some (h x)

  -- a feed in which a Take finds nothing
  pub found_nothing : (f : Feed K I) → has_something f ≡ false → (f.skipped ≡ 0) × (f.queue ≡ [])
  found_nothing f e = (
    eqb-true f.skipped 0 (not-false (nat_eq f.skipped 0) (or_left (not (nat_eq f.skipped 0)) (not (is_none_queued f.queue)) e)),
    none f.queue (not-false (is_none_queued f.queue) (or_right (not (nat_eq f.skipped 0)) (not (is_none_queued f.queue)) e)),
  )
    where
      or_left : (x y : Bool) → (x || y) ≡ false → x ≡ false
      or_left true y e = e
      or_left false y e = refl

      or_right : (x y : Bool) → (x || y) ≡ false → y ≡ false
      or_right true y e = absurd (let e2 : true ≡ false = e in cc)
      or_right false y e = e

      none : (q : List (ℕ × I)) → is_none_queued q ≡ true → q ≡ []
      none [] e = refl
      none (p ∷ q) e = absurd (let e2 : false ≡ true = e in cc)

-- One act of a user on a table, seen without its reply.
module _ {D J W N P M X K I F : Type 0} (m : Feeding D J W N P M X K I F) where
  abbrev Stood : Type 0
  Stood = Table D J K I

  abbrev Recordings : Type 0
  Recordings = List (Recorded (Order (Cmd W N P)))

  abbrev Deed : Type 0
  Deed = Act (Order (Cmd W N P)) (Reply (Said M I)) (Unit {0}) (Look (D × J))

  abbrev stood_machine : Machine Stood (Order (Cmd W N P)) (Reply (Said M I)) (Unit {0}) (Look (D × J))
  stood_machine = table_machine m

  module _ (ends : Recordings → Type 0) (by : ℕ) where
    -- one act, seen without its reply
    pub record After (t : Stood) (at stood : ℕ) (acts : List Deed) (history : Recordings) (cmd : Cmd W N P) (reply : Reply (Said M I)) : Type 0 where
      pub others : Recordings
      pub rest : Recordings
      pub place : ℕ
      pub theirs : own by others ≡ []
      pub entry : Recordings
      pub shape : history ≡ (others ++ entry) ++ rest
      pub leads : replay stood_machine (replay stood_machine t others) entry ≡ after_cmd m (replay stood_machine t others) by cmd
      pub stands : stood ≡ at + length others
      pub answered : reply ≡ reply_to_cmd m (replay stood_machine t others) by cmd
      pub woven : WovenTo stood_machine ends (after_cmd m (replay stood_machine t others) by cmd) by place acts rest
      pub changes : changes_from m t history ≡ (changes_from m t others ++ changes_at m (replay stood_machine t others) by cmd) ++ changes_from m (after_cmd m (replay stood_machine t others) by cmd) rest

    pub record Idle (t : Stood) (acts : List Deed) (history : Recordings) : Type 0 where
      pub others : Recordings
      pub rest : Recordings
      pub place : ℕ
      pub theirs : own by others ≡ []
      pub woven : WovenTo stood_machine ends (replay stood_machine t others) by place acts rest
      pub changes : changes_from m t history ≡ changes_from m t others ++ changes_from m (replay stood_machine t others) rest

    entry_after : (s : Stood) (order : Order (Cmd W N P)) → replay stood_machine s (cond (adds m (answer m s by order.cmd)) (noted by order ∷ []) []) ≡ after_cmd m s by order.cmd
    entry_after s order = split (adds m (answer m s by order.cmd)) (λ b. adds m (answer m s by order.cmd) ≡ b → replay stood_machine s (cond b (noted by order ∷ []) []) ≡ after_cmd m s by order.cmd)
        (λ _ e. refl) (λ _ e. sym (ap (λ b. cond b (one_more m (effect m s by order.cmd)) s) e)) refl

    entry_changes : (s : Stood) (order : Order (Cmd W N P)) → changes_from m s (cond (adds m (answer m s by order.cmd)) (noted by order ∷ []) []) ≡ changes_at m s by order.cmd
    entry_changes s order = split (adds m (answer m s by order.cmd)) (λ b. adds m (answer m s by order.cmd) ≡ b → changes_from m s (cond b (noted by order ∷ []) []) ≡ changes_at m s by order.cmd)
        (λ _ e. append-nil (changes_at m s by order.cmd)) (λ _ e. sym (ap (λ b. cond b (changes_by m s order.cmd) []) e)) refl

    pub ran : (t : Stood) (at place : ℕ) (order : Order (Cmd W N P)) (reply : Reply (Said M I)) (acts : List Deed) (history : Recordings) → WovenTo stood_machine ends t by at (Ran place order reply ∷ acts) history → After t at place acts history order.cmd reply
    ran t at place order reply acts history w =
        let s : Stood = replay stood_machine t w.0 in
        let same : entries_of stood_machine by (Ran place order reply) ≡ cond (adds m (answer m s by order.cmd)) (noted by order ∷ []) [] = ap (λ (r : Reply (Said M I)). cond (adds m r.said) (noted by order ∷ []) []) w.5 in
        let added : Recordings = cond (adds m (answer m s by order.cmd)) (noted by order ∷ []) [] in
        record {
          others = w.0;
          rest = w.1;
          place = at + length (w.0 ++ entries_of stood_machine by (Ran place order reply));
          theirs = w.3;
          answered = w.5;
          entry = added;
          shape = w.2 ∙ ap (λ z. (w.0 ++ z) ++ w.1) same;
          leads = entry_after s order;
          stands = w.4;
          woven = subst (λ z. WovenTo stood_machine ends z by (at + length (w.0 ++ entries_of stood_machine by (Ran place order reply))) acts w.1)
              (ap (λ z. replay stood_machine t (w.0 ++ z)) same ∙ replay_append stood_machine t w.0 added ∙ entry_after s order) w.6;
          changes = ap (λ z. changes_from m t z) (w.2 ∙ ap (λ z. (w.0 ++ z) ++ w.1) same ∙ append_assoc w.0 added w.1) ∙ changes_append m t w.0 (added ++ w.1)
              ∙ ap (λ z. changes_from m t w.0 ++ z) (changes_append m s added w.1 ∙ (λ i. entry_changes s order i ++ changes_from m (entry_after s order i) w.1))
              ∙ sym (append_assoc (changes_from m t w.0) (changes_at m s by order.cmd) (changes_from m (after_cmd m s by order.cmd) w.1));
        }

    pub idle : (t : Stood) (at : ℕ) (a : Deed) (acts : List Deed) (history : Recordings) → entries_of stood_machine by a ≡ [] → WovenTo stood_machine ends t by at (a ∷ acts) history → Idle t acts history
    idle t at a acts history none w =
        let e : w.0 ++ entries_of stood_machine by a ≡ w.0 = ap (λ z. w.0 ++ z) none ∙ append-nil w.0 in
        record {
          others = w.0;
          rest = w.1;
          place = at + length (w.0 ++ entries_of stood_machine by a);
          theirs = w.3;
          woven = subst (λ z. WovenTo stood_machine ends (replay stood_machine t z) by (at + length (w.0 ++ entries_of stood_machine by a)) acts w.1) e w.6;
          changes = ap (λ z. changes_from m t z) (w.2 ∙ ap (λ z. z ++ w.1) e) ∙ changes_append m t w.0 w.1;
        }

-- A Take of an open feed.
module _ {D J W N P M X K I F : Type 0} (m : Feeding D J W N P M X K I F) (by number : ℕ) where
  abbrev takes_from : ℕ → Cmd W N P
  takes_from max = cmds.Take number max

  -- the answers that it can have
  pub take_cases : (t : Table D J K I) (max : ℕ) (f : Feed K I) → find_feed by number t.feeds ≡ Some f → (G : Said M I → Type 0) → (has_something f ≡ true → G (said.HistoryFull (2 ^ 64 - 1))) → (has_something f ≡ true → G (said.Batch f.skipped f.last (given_by m max f))) →
      (has_something f ≡ false → G said.Gone) → (has_something f ≡ false → G said.Nothing) → G (answer m t by (takes_from max))
  take_cases t max f e G full batch gone nothing =
      let u : Table D J K I = one_more m (effect m t by (takes_from max)) in
      subst (λ o. G (if_room m u (takes m t number max o))) (sym e)
      (split (has_something f) (λ b. G (if_room m u (cond b (said.Batch f.skipped f.last (given_by m max f)) (unless_shut m t said.Nothing))))
      (λ h. split (is_past m u) (λ b. G (cond b (said.HistoryFull (2 ^ 64 - 1)) (said.Batch f.skipped f.last (given_by m max f)))) (λ _. full h) (λ _. batch h))
      (λ h. split t.shut (λ b. G (if_room m u (cond b said.Gone said.Nothing))) (λ _. gone h) (λ _. nothing h)))

  -- what one that is answered so leaves
  abbrev pub left_so : Table D J K I → ℕ → Said M I → Table D J K I
  left_so t max s = cond (adds m s) (one_more m (effect m t by (takes_from max))) t

module _ {D J W N P M X K I F : Type 0} (m : Feeding D J W N P M X K I F) (good : D → Type 0) (may : D → X → Type 0) (l : Folds m good may) (ends : List (Recorded (Order (Cmd W N P))) → Type 0) (by number : ℕ) (k : K) (d : D) (n : ℕ) where
  abbrev T : Type 0
  T = Table D J K I

  abbrev takes_it : ℕ → Cmd W N P
  takes_it max = cmds.Take number max

  abbrev pub so : T → ℕ → Said M I → T
  so t max s = left_so m by number t max s

  abbrev pub more : List X → T → ℕ → Said M I → List X
  more xs t max s = xs ++ cond (adds m s) (changes_by m t (takes_it max)) []

  record Outcome (at max : ℕ) (t : T) (xs : List X) (g : List (ℕ × I)) (s : Said M I) : Type 0 where
    pub next : tells_skip s ≡ false → Tracked m good may l (Holds m good may l k d n (g ++ items_of s)) by number k d n (more xs t max s) (so t max s)
    pub decides : tells_skip s ≡ false → Decides (m.squashes k) at (record { max = max; stamp = (so t max s).stamp; said = s }) →
        Tracked m good may l (IsAbove m good may l k d n at) by number k d n (more xs t max s) (so t max s) × (fold m k (m.value k d) (bare m (upto at (g ++ items_of s))) ≡ m.value k (changed m d (take (at - n) (more xs t max s))))

  module _ (at : ℕ) (le : n ≤ at) (max : ℕ) (t : T) (xs : List X) (g : List (ℕ × I)) (r : Tracked m good may l (Holds m good may l k d n g) by number k d n xs t) where
    -- the same feed, with another thing known of it
    again : (holds : Feed K I → List X → Type 0) (ys : List X) → ys ≡ xs → holds r.feed ys → Tracked m good may l holds by number k d n ys t
    again holds ys e h = record { feed = r.feed; found = r.found; kept = r.kept; docs = r.docs ∙ ap (λ z. changed m d z) (sym e); stamp = r.stamp ∙ ap (λ z. n + length z) (sym e); first = r.first; comes = subst (λ z. Comes m may d z) (sym e) r.comes; holding = h }

    still : (s : Said M I) → adds m s ≡ false → items_of s ≡ [] → (Decides (m.squashes k) at (record { max = max; stamp = t.stamp; said = s }) → ⊥) → Outcome at max t xs g s
    still s a i no_more = record {
      next = λ _. subst (λ b. Tracked m good may l (Holds m good may l k d n (g ++ items_of s)) by number k d n (xs ++ cond b (changes_by m t (takes_it max)) []) (cond b (one_more m (effect m t by (takes_it max))) t)) (sym a)
          (again (Holds m good may l k d n (g ++ items_of s)) (xs ++ []) (append-nil xs)
          (λ z. subst (λ (w : List X × List (ℕ × I)). Held m good may l k d n (m.squashes k) r.feed.queue w.0 w.1) (λ j. (sym (append-nil xs) j, (sym (append-nil g) ∙ ap (λ y. g ++ y) (sym i)) j)) (r.holding z)));
      decides = λ _ c. absurd (no_more (subst (λ b. Decides (m.squashes k) at (record { max = max; stamp = (cond b (one_more m (effect m t by (takes_it max))) t).stamp; said = s })) a c));
    }

    never_full : (count : ℕ) (b : Bool) → (let s : Said M I = said.HistoryFull count in Decides b at (record { max = max; stamp = t.stamp; said = s })) → ⊥
    never_full count true h = h
    never_full count false h = h

    never_nothing : (b : Bool) → (let s : Said M I = said.Nothing in Decides b at (record { max = max; stamp = t.stamp; said = s })) → ⊥
    never_nothing true h = h
    never_nothing false h = h

    outcome_gone : has_something r.feed ≡ false → Outcome at max t xs g said.Gone
    outcome_gone h =
        let z = found_nothing r.feed h in
        let held : Held m good may l k d n (m.squashes k) [] xs g = subst (λ q. Held m good may l k d n (m.squashes k) q xs g) z.1 (r.holding z.0) in
        record {
          next = λ _. again (Holds m good may l k d n (g ++ [])) (xs ++ []) (append-nil xs)
              (λ y. subst (λ (w : List X × List (ℕ × I)). Held m good may l k d n (m.squashes k) r.feed.queue w.0 w.1) (λ j. (sym (append-nil xs) j, sym (append-nil g) j)) (r.holding y));
          decides = λ _ c.
              let s : Settled m good may l k d n at [] xs (g ++ []) = settled_gone m good may l k d n (m.squashes k) refl r.first at max t.stamp xs g r.stamp r.comes le held c in (
                again (IsAbove m good may l k d n at) (xs ++ []) (append-nil xs) (omega (arith, s.reached, ap length (append-nil xs)), subst (λ q. Above at q) (sym z.1) tt),
                s.folds ∙ ap (λ y. m.value k (changed m d (take (at - n) y))) (sym (append-nil xs)),
              );
        }

    -- the table after a Take that gave a batch
    abbrev u : T
    u = one_more m (effect m t by (takes_it max))

    left : (holds : Feed K I → List X → Type 0) → holds (left_by m max r.feed) (xs ++ []) → Tracked m good may l holds by number k d n (xs ++ []) u
    left holds h = record {
      feed = left_by m max r.feed;
      found = find_taken (left_by m max) by number (λ f. refl) t.feeds r.feed r.found;
      kept = r.kept;
      docs = r.docs ∙ ap (λ z. changed m d z) (sym (append-nil xs));
      stamp = r.stamp ∙ ap (λ z. n + length z) (sym (append-nil xs));
      first = r.first;
      comes = subst (λ z. Comes m may d z) (sym (append-nil xs)) r.comes;
      holding = h;
    }

    outcome_batch : Outcome at max t xs g (said.Batch r.feed.skipped r.feed.last (given_by m max r.feed))
    outcome_batch =
        let clean : not (nat_eq r.feed.skipped 0) ≡ false → r.feed.skipped ≡ 0 = λ e. eqb-true r.feed.skipped 0 (not-false (nat_eq r.feed.skipped 0) e) in
        let gives : K → List (ℕ × I) = λ j. cond (m.squashes j) (m.net j r.feed.queue) (take max r.feed.queue) in
        let leaves : K → List (ℕ × I) = λ j. cond (m.squashes j) [] (drop max r.feed.queue) in
        record {
          next = λ e. left (Holds m good may l k d n (g ++ given_by m max r.feed))
              (λ _. subst (λ (w : K × List X). Held m good may l k d n (m.squashes k) (leaves w.0) w.1 (g ++ gives w.0)) (λ j. (sym r.kept j, sym (append-nil xs) j))
              (held_left m good may l k d n (m.squashes k) refl r.first max r.feed.queue xs g r.comes (r.holding (clean e))));
          decides = λ e c.
              let s : Settled m good may l k d n at (leaves k) xs (g ++ gives k) =
              settled_batch m good may l k d n (m.squashes k) refl r.first at max t.stamp r.feed.skipped r.feed.last r.feed.queue xs g r.stamp r.comes le (r.holding (clean e))
              (subst (λ j. Decides {M = M} {I = I} (m.squashes k) at (record { max = max; stamp = t.stamp; said = said.Batch r.feed.skipped r.feed.last (gives j) })) r.kept c) in (
                left (IsAbove m good may l k d n at) (omega (arith, s.reached, ap length (append-nil xs)), subst (λ j. Above at (leaves j)) (sym r.kept) s.above),
                ap (λ j. fold m k (m.value k d) (bare m (upto at (g ++ gives j)))) r.kept ∙ s.folds ∙ ap (λ y. m.value k (changed m d (take (at - n) y))) (sym (append-nil xs)),
              );
        }

    outcome : Outcome at max t xs g (answer m t by (takes_it max))
    outcome = take_cases m by number t max r.feed r.found (Outcome at max t xs g) (λ _. still (said.HistoryFull (2 ^ 64 - 1)) refl refl (never_full (2 ^ 64 - 1) (m.squashes k))) (λ _. outcome_batch) outcome_gone (λ _. still said.Nothing refl refl (never_nothing (m.squashes k)))

  abbrev H : List (ℕ × I) → Feed K I → List X → Type 0
  H g = Holds m good may l k d n g

  abbrev machine : Machine T (Order (Cmd W N P)) (Reply (Said M I)) (Unit {0}) (Look (D × J))
  machine = table_machine m

  abbrev Entries : Type 0
  Entries = List (Recorded (Order (Cmd W N P)))

  abbrev Performed : Type 0
  Performed = Act (Order (Cmd W N P)) (Reply (Said M I)) (Unit {0}) (Look (D × J))

  -- where nothing up to a stamp is to come, all that is given later is above it
  abbrev above_of : ℕ → Feed K I → List X → Type 0
  above_of at = IsAbove m good may l k d n at

  abbrev Later : ℕ → List Performed → Type 0
  Later at acts = (history : Entries) (place : ℕ) (t : T) (xs : List X) → WovenTo machine ends t by place acts history → Tracked m good may l (above_of at) by number k d n xs t → Above at (given (takings number acts))

  record Passed (at max : ℕ) (t : T) (xs : List X) (s : Said M I) : Type 0 where
    pub above : Above at (items_of s)
    pub next : Tracked m good may l (above_of at) by number k d n (more xs t max s) (so t max s)

  passed : (at max : ℕ) (t : T) (xs : List X) → Tracked m good may l (above_of at) by number k d n xs t → Passed at max t xs (answer m t by (takes_it max))
  passed at max t xs r =
      let same : Tracked m good may l (above_of at) by number k d n (xs ++ []) t = subst (λ z. Tracked m good may l (above_of at) by number k d n z t) (sym (append-nil xs)) r in
      take_cases m by number t max r.feed r.found (Passed at max t xs) (λ _. record { above = tt; next = same })
      (λ _. record {
        above = split (m.squashes r.feed.kept) (λ b. Above at (cond b (m.net r.feed.kept r.feed.queue) (take max r.feed.queue))) (λ _. l.above r.feed.kept at r.feed.queue r.holding.1) (λ _. all_take (λ (p : ℕ × I). at < p.0) max r.feed.queue r.holding.1);
        next = record {
          feed = left_by m max r.feed;
          found = find_taken (left_by m max) by number (λ f. refl) t.feeds r.feed r.found;
          kept = r.kept;
          docs = same.docs;
          stamp = same.stamp;
          first = r.first;
          comes = same.comes;
          holding = (same.holding.0, split (m.squashes r.feed.kept) (λ b. Above at (cond b [] (drop max r.feed.queue))) (λ _. tt) (λ _. all_drop (λ (p : ℕ × I). at < p.0) max r.feed.queue r.holding.1));
        };
      })
      (λ _. record { above = tt; next = same }) (λ _. record { above = tt; next = same })

  -- the Takes of a command and of the acts after it
  abbrev after_it : Cmd W N P → Reply (Said M I) → List Performed → List (Taking M I)
  after_it cmd reply acts = cond (is_end number cmd) [] (taking_by number cmd reply ++ takings number acts)

  later_cmd : (at : ℕ) (acts : List Performed) → Later at acts → (cmd : Cmd W N P) (rest : Entries) (place : ℕ) (t : T) (xs : List X) → WovenTo machine ends (after_cmd m t by cmd) by place acts rest → Tracked m good may l (above_of at) by number k d n xs t →
      Above at (given (after_it cmd (reply_to_cmd m t by cmd) acts))
  later_cmd at acts ih (cmds.Write w) rest place t xs v r = ih rest place _ _ v (tracked_step m good may l (above_of at) by number k d n (above_on m good may l k d n at) xs t by (cmds.Write w) tt r)
  later_cmd at acts ih (cmds.Index w) rest place t xs v r = ih rest place _ _ v (tracked_step m good may l (above_of at) by number k d n (above_on m good may l k d n at) xs t by (cmds.Index w) tt r)
  later_cmd at acts ih (cmds.Subscribe w) rest place t xs v r = ih rest place _ _ v (tracked_step m good may l (above_of at) by number k d n (above_on m good may l k d n at) xs t by (cmds.Subscribe w) tt r)
  later_cmd at acts ih cmds.Shut rest place t xs v r = ih rest place _ _ v (tracked_step m good may l (above_of at) by number k d n (above_on m good may l k d n at) xs t by cmds.Shut tt r)
  later_cmd at acts ih cmds.Sync rest place t xs v r = ih rest place _ _ v (tracked_step m good may l (above_of at) by number k d n (above_on m good may l k d n at) xs t by cmds.Sync tt r)
  later_cmd at acts ih (cmds.Unsubscribe feed) rest place t xs v r =
      split (nat_eq feed number) (λ b. Above at (given (cond b [] (takings number acts)))) (λ _. tt)
      (λ e. ih rest place _ _ v (tracked_step m good may l (above_of at) by number k d n (above_on m good may l k d n at) xs t by (cmds.Unsubscribe feed) (λ _ q. both_ways (nat_eq feed number) e (eq-eqb feed number q)) r))
  later_cmd at acts ih (cmds.Take feed max) rest place t xs v r =
      split (nat_eq feed number) (λ b. Above at (given (cond b (record { max = max; stamp = (reply_to_cmd m t by (cmds.Take feed max)).stamp; said = answer m t by (cmds.Take feed max) } ∷ []) [] ++ takings number acts)))
      (λ e. let q : feed ≡ number = eqb-true feed number e in
      let p : Passed at max t xs (answer m t by (takes_it max)) = passed at max t xs r in
      all_append (λ (x : ℕ × I). at < x.0) (items_of (answer m t by (cmds.Take feed max))) (given (takings number acts))
      (subst (λ z. Above at (items_of (answer m t by (cmds.Take z max)))) (sym q) p.above)
      (ih rest place (after_cmd m t by (takes_it max)) (more xs t max (answer m t by (takes_it max))) (subst (λ z. WovenTo machine ends (after_cmd m t by (cmds.Take z max)) by place acts rest) q v) p.next))
      (λ e. ih rest place _ _ v (tracked_step m good may l (above_of at) by number k d n (above_on m good may l k d n at) xs t by (cmds.Take feed max) (λ _ q. both_ways (nat_eq feed number) e (eq-eqb feed number q)) r))

  later : (at : ℕ) (acts : List Performed) → Later at acts
  later at [] history place t xs w r = tt
  later at (Ran p order reply ∷ acts) history place t xs w r =
      let a : After m ends by t place p acts history order.cmd reply = ran m ends by t place p order reply acts history w in
      subst (λ z. Above at (given (after_it order.cmd z acts))) (sym a.answered)
      (later_cmd at acts (later at acts) order.cmd a.rest a.place (replay machine t a.others) _ a.woven (tracked_others m good may l (above_of at) by number k d n (above_on m good may l k d n at) xs t a.others a.theirs r))
  later at (Looked p q x ∷ acts) history place t xs w r =
      let a : Idle m ends by t acts history = idle m ends by t place (Looked p q x) acts history refl w in
      later at acts a.rest a.place (replay machine t a.others) _ a.woven (tracked_others m good may l (above_of at) by number k d n (above_on m good may l k d n at) xs t a.others a.theirs r)
  later at (Denied p ∷ acts) history place t xs w r =
      let a : Idle m ends by t acts history = idle m ends by t place (Denied p) acts history refl w in
      later at acts a.rest a.place (replay machine t a.others) _ a.woven (tracked_others m good may l (above_of at) by number k d n (above_on m good may l k d n at) xs t a.others a.theirs r)

  -- the law, from any moment on
  abbrev Folded : ℕ → List Performed → Type 0
  Folded at acts = (history : Entries) (place : ℕ) (t : T) (xs : List X) (g sent unsent : List (ℕ × I)) → WovenTo machine ends t by place acts history → Tracked m good may l (H g) by number k d n xs t →
      sent ++ unsent ≡ given (takings number acts) → Whole (m.squashes k) at (takings number acts) sent → fold m k (m.value k d) (bare m (upto at (g ++ sent))) ≡ m.value k (changed m d (take (at - n) (xs ++ changes_from m t history)))

  abbrev FoldedAfter : ℕ → List Performed → Cmd W N P → Type 0
  FoldedAfter at acts cmd = (rest : Entries) (place : ℕ) (t : T) (xs : List X) (g sent unsent : List (ℕ × I)) → WovenTo machine ends (after_cmd m t by cmd) by place acts rest → Tracked m good may l (H g) by number k d n xs t →
      sent ++ unsent ≡ given (after_it cmd (reply_to_cmd m t by cmd) acts) → Whole (m.squashes k) at (after_it cmd (reply_to_cmd m t by cmd) acts) sent →
      fold m k (m.value k d) (bare m (upto at (g ++ sent))) ≡ m.value k (changed m d (take (at - n) ((xs ++ changes_at m t by cmd) ++ changes_from m (after_cmd m t by cmd) rest)))

  leaving : (at : ℕ) (acts : List Performed) → Folded at acts → (cmd : Cmd W N P) → Leaves by number by cmd → (rest : Entries) (place : ℕ) (t : T) (xs : List X) (g sent unsent : List (ℕ × I)) → WovenTo machine ends (after_cmd m t by cmd) by place acts rest → Tracked m good may l (H g) by number k d n xs t →
      sent ++ unsent ≡ given (takings number acts) → Whole (m.squashes k) at (takings number acts) sent →
      fold m k (m.value k d) (bare m (upto at (g ++ sent))) ≡ m.value k (changed m d (take (at - n) ((xs ++ changes_at m t by cmd) ++ changes_from m (after_cmd m t by cmd) rest)))
  leaving at acts ih cmd v rest place t xs g sent unsent w r e h = ih rest place (after_cmd m t by cmd) (xs ++ changes_at m t by cmd) g sent unsent w (tracked_step m good may l (H g) by number k d n (holds_on m good may l k d n g) xs t by cmd v r) e h

  taking : (at : ℕ) → n ≤ at → (acts : List Performed) → Folded at acts → (max : ℕ) (rest : Entries) (place : ℕ) (t : T) (xs : List X) (g sent unsent : List (ℕ × I)) → WovenTo machine ends (after_cmd m t by (takes_it max)) by place acts rest → Tracked m good may l (H g) by number k d n xs t →
      (let one : Taking M I = record { max = max; stamp = (reply_to_cmd m t by (takes_it max)).stamp; said = answer m t by (takes_it max) } in
      sent ++ unsent ≡ given (one ∷ takings number acts) → Whole (m.squashes k) at (one ∷ takings number acts) sent →
      fold m k (m.value k d) (bare m (upto at (g ++ sent))) ≡ m.value k (changed m d (take (at - n) ((xs ++ changes_at m t by (takes_it max)) ++ changes_from m (after_cmd m t by (takes_it max)) rest))))
  taking at le acts ih max rest place t xs g sent unsent w r e h =
      let s : Said M I = answer m t by (takes_it max) in
      let o : Outcome at max t xs g s = outcome at le max t xs g r in
      let is : List (ℕ × I) = items_of s in
      let left_over : h.0 ++ unsent ≡ given (takings number acts) = append_cancel_left is (h.0 ++ unsent) (given (takings number acts)) (sym (append_assoc is h.0 unsent) ∙ ap (λ z. z ++ unsent) (sym h.1) ∙ e) in
      let shape : g ++ sent ≡ (g ++ is) ++ h.0 = ap (λ z. g ++ z) h.1 ∙ sym (append_assoc g is h.0) in
      ap (λ z. fold m k (m.value k d) (bare m (upto at z))) shape ∙
      elim h.3 [
        | inl c ↦
            (let x = o.decides h.2 c in
            let later_above : Above at h.0 = all_left (λ (p : ℕ × I). at < p.0) h.0 unsent (subst (λ z. Above at z) (sym left_over) (later at acts rest place (after_cmd m t by (takes_it max)) (more xs t max s) w x.0)) in
            let long : at - n ≤ length (more xs t max s) = omega (arith, x.0.holding.0, le) in
            ap (λ z. fold m k (m.value k d) (bare m z)) (upto_front at (g ++ is) h.0 later_above) ∙ x.1
            ∙ ap (λ z. m.value k (changed m d z)) (sym (take-append-le (at - n) (more xs t max s) (changes_from m (after_cmd m t by (takes_it max)) rest) long)))
        | inr v ↦ ih rest place (after_cmd m t by (takes_it max)) (more xs t max s) (g ++ is) h.0 unsent w (o.next h.2) left_over v
      ]

  folded_cmd : (at : ℕ) → n ≤ at → (acts : List Performed) → Folded at acts → (cmd : Cmd W N P) → FoldedAfter at acts cmd
  folded_cmd at le acts ih (cmds.Write c) rest place t xs g sent unsent w r e h = leaving at acts ih (cmds.Write c) tt rest place t xs g sent unsent w r e h
  folded_cmd at le acts ih (cmds.Index c) rest place t xs g sent unsent w r e h = leaving at acts ih (cmds.Index c) tt rest place t xs g sent unsent w r e h
  folded_cmd at le acts ih (cmds.Subscribe c) rest place t xs g sent unsent w r e h = leaving at acts ih (cmds.Subscribe c) tt rest place t xs g sent unsent w r e h
  folded_cmd at le acts ih cmds.Shut rest place t xs g sent unsent w r e h = leaving at acts ih cmds.Shut tt rest place t xs g sent unsent w r e h
  folded_cmd at le acts ih cmds.Sync rest place t xs g sent unsent w r e h = leaving at acts ih cmds.Sync tt rest place t xs g sent unsent w r e h
  folded_cmd at le acts ih (cmds.Unsubscribe feed) rest place t xs g sent unsent w r e h =
      split (nat_eq feed number) (λ b. sent ++ unsent ≡ given (cond b [] (takings number acts)) → Whole (m.squashes k) at (cond b [] (takings number acts)) sent →
      fold m k (m.value k d) (bare m (upto at (g ++ sent))) ≡ m.value k (changed m d (take (at - n) ((xs ++ changes_at m t by (cmds.Unsubscribe feed)) ++ changes_from m (after_cmd m t by (cmds.Unsubscribe feed)) rest))))
      (λ _ e h. absurd h)
      (λ f e h. leaving at acts ih (cmds.Unsubscribe feed) (λ _ q. both_ways (nat_eq feed number) f (eq-eqb feed number q)) rest place t xs g sent unsent w r e h)
      e h
  folded_cmd at le acts ih (cmds.Take feed max) rest place t xs g sent unsent w r e h =
      let one : Taking M I = record { max = max; stamp = (reply_to_cmd m t by (cmds.Take feed max)).stamp; said = answer m t by (cmds.Take feed max) } in
      split (nat_eq feed number) (λ b. sent ++ unsent ≡ given (cond b (one ∷ []) [] ++ takings number acts) → Whole (m.squashes k) at (cond b (one ∷ []) [] ++ takings number acts) sent →
      fold m k (m.value k d) (bare m (upto at (g ++ sent))) ≡ m.value k (changed m d (take (at - n) ((xs ++ changes_at m t by (cmds.Take feed max)) ++ changes_from m (after_cmd m t by (cmds.Take feed max)) rest))))
      (λ f. let q : feed ≡ number = eqb-true feed number f in
      subst (λ z. WovenTo machine ends (after_cmd m t by (cmds.Take z max)) by place acts rest → (let o : Taking M I = record { max = max; stamp = (reply_to_cmd m t by (cmds.Take z max)).stamp; said = answer m t by (cmds.Take z max) } in
      sent ++ unsent ≡ given (o ∷ takings number acts) → Whole (m.squashes k) at (o ∷ takings number acts) sent →
      fold m k (m.value k d) (bare m (upto at (g ++ sent))) ≡ m.value k (changed m d (take (at - n) ((xs ++ changes_at m t by (cmds.Take z max)) ++ changes_from m (after_cmd m t by (cmds.Take z max)) rest)))))
      (sym q) (λ w2. taking at le acts ih max rest place t xs g sent unsent w2 r) w)
      (λ f e h. leaving at acts ih (cmds.Take feed max) (λ _ q. both_ways (nat_eq feed number) f (eq-eqb feed number q)) rest place t xs g sent unsent w r e h)
      e h

  folded_idle : (at : ℕ) → n ≤ at → (acts : List Performed) → Folded at acts → (history : Entries) (t : T) (xs : List X) (g sent unsent : List (ℕ × I)) → Idle m ends by t acts history → Tracked m good may l (H g) by number k d n xs t →
      sent ++ unsent ≡ given (takings number acts) → Whole (m.squashes k) at (takings number acts) sent → fold m k (m.value k d) (bare m (upto at (g ++ sent))) ≡ m.value k (changed m d (take (at - n) (xs ++ changes_from m t history)))
  folded_idle at le acts ih history t xs g sent unsent a r e h =
      ih a.rest a.place (replay machine t a.others) (xs ++ changes_from m t a.others) g sent unsent a.woven (tracked_others m good may l (H g) by number k d n (holds_on m good may l k d n g) xs t a.others a.theirs r) e h
      ∙ ap (λ z. m.value k (changed m d (take (at - n) z))) (append_assoc xs (changes_from m t a.others) (changes_from m (replay machine t a.others) a.rest) ∙ ap (λ z. xs ++ z) (sym a.changes))

  folded : (at : ℕ) → n ≤ at → (acts : List Performed) → Folded at acts
  folded at le [] history place t xs g sent unsent w r e h = absurd h
  folded at le (Ran p order reply ∷ acts) history place t xs g sent unsent w r e h =
      let a : After m ends by t place p acts history order.cmd reply = ran m ends by t place p order reply acts history w in
      folded_cmd at le acts (folded at le acts) order.cmd a.rest a.place (replay machine t a.others) (xs ++ changes_from m t a.others) g sent unsent a.woven
      (tracked_others m good may l (H g) by number k d n (holds_on m good may l k d n g) xs t a.others a.theirs r)
      (e ∙ ap (λ z. given (after_it order.cmd z acts)) a.answered) (subst (λ z. Whole (m.squashes k) at (after_it order.cmd z acts) sent) a.answered h)
      ∙ ap (λ z. m.value k (changed m d (take (at - n) z)))
      (ap (λ z. z ++ changes_from m (after_cmd m (replay machine t a.others) by order.cmd) a.rest) (append_assoc xs (changes_from m t a.others) (changes_at m (replay machine t a.others) by order.cmd))
      ∙ append_assoc xs (changes_from m t a.others ++ changes_at m (replay machine t a.others) by order.cmd) (changes_from m (after_cmd m (replay machine t a.others) by order.cmd) a.rest)
      ∙ ap (λ z. xs ++ z) (sym a.changes))
  folded at le (Looked p q x ∷ acts) history place t xs g sent unsent w r e h = folded_idle at le acts (folded at le acts) history t xs g sent unsent (idle m ends by t place (Looked p q x) acts history refl w) r e h
  folded at le (Denied p ∷ acts) history place t xs g sent unsent w r e h = folded_idle at le acts (folded at le acts) history t xs g sent unsent (idle m ends by t place (Denied p) acts history refl w) r e h

-- A feed that was just opened, and a user's acts and others' entries from then on.
module _ {D J W N P M X K I F : Type 0} (m : Feeding D J W N P M X K I F) (good : D → Type 0) (may : D → X → Type 0) (l : Folds m good may) where
  pub fed_from : (ends : List (Recorded (Order (Cmd W N P))) → Type 0) (by at : ℕ) (k : K) (t : Table D J K I) (f : Feed K I) (acts : List (Act (Order (Cmd W N P)) (Reply (Said M I)) (Unit {0}) (Look (D × J)))) (history : List (Recorded (Order (Cmd W N P)))) (sent unsent : List (ℕ × I)) →
      good t.docs → find_feed by f.number t.feeds ≡ Some f → f.kept ≡ k → f.queue ≡ [] → WovenTo (table_machine m) ends t by at acts history → sent ++ unsent ≡ given (takings f.number acts) → Fed m k t history (takings f.number acts) sent
  fed_from ends by at k t f acts history sent unsent g found kept none w e n le h =
      folded m good may l ends by f.number k t.docs t.stamp n le acts history at t [] [] sent unsent w
      (record { feed = f; found = found; kept = kept; docs = refl; stamp = omega arith; first = g; comes = tt; holding = λ _. held (m.squashes k) }) e h
    where
      held : (b : Bool) → Held m good may l k t.docs t.stamp b f.queue [] []
      held false = none
      held true = record { sent = []; more = []; all = refl; queue = none; folds = refl; below = tt }
