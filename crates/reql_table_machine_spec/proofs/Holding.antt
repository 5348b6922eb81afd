-- What was given of a feed and what is queued are together what its changes append, while nothing was skipped.
use Rattle.std.proofs.Common.{◌≡◌, ◌<◌, ◌≤◌, inl, inr, ℕ, zero, suc, ◌+◌, ◌-◌, ◌^◌, min, Bool, true, false, cond, List, [], ◌∷◌, ◌++◌, length, map, take, drop, refl, sym, ap, subst, ◌∙◌, arith, append_assoc, append-nil, length-append}
use Rattle.std.specs.List.{AllByRecursion}
use Rattle.std.specs.Prelude.{nat_lt}
use Rattle.std.proofs.lemmas.List.{take-append-drop}
use Rattle.reql_table_machine_spec.specs.Feeding.{Feeding, fold, changed, appended, bare, Comes, Folds}
use Rattle.reql_table_machine_spec.specs.Feeds.{Feed, dropping, push, push_all}
use Rattle.reql_table_machine_spec.specs.Fed.{upto, IsPassed, Decides}
use Rattle.reql_table_machine_spec.specs.declared.command.Said.TheVariants as said
use Rattle.reql_table_machine_spec.proofs.Items.{Above, Below, all_append, all_right, all_map, all_take, below_more, upto_all, upto_front, stamped_above, fold_append, bare_append, changed_append, appended_one, appended_above, appended_below, upto_appended, comes_take, good_changed, fold_appended}
use Rattle.reql_table_machine_spec.proofs.Tracking.{split, GoesOn}

module _ {K I : Type 0} where
  -- a push that drops nothing only appends, and a count of skipped items never falls to 0
  dropping_clean : (f : Feed K I) (q : List (ℕ × I)) (p : ℕ × I) → (dropping f q p).skipped ≡ 0 → (f.skipped ≡ 0) × ((dropping f q p).queue ≡ q ++ p ∷ [])
  dropping_clean f [] p e = (e, refl)
  dropping_clean f (o ∷ q) p e = absurd (let h : min (suc f.skipped) (2 ^ 64 - 1) ≡ 0 = e in omega (arith, h))

  push_clean : (size : ℕ) (f : Feed K I) (p : ℕ × I) → (push size f p).skipped ≡ 0 → (f.skipped ≡ 0) × ((push size f p).queue ≡ f.queue ++ p ∷ [])
  push_clean size f p = split (nat_lt (length f.queue) size)
      (λ b. (cond b (record f { queue = f.queue ++ p ∷ [] }) (dropping f f.queue p)).skipped ≡ 0 → (f.skipped ≡ 0) × ((cond b (record f { queue = f.queue ++ p ∷ [] }) (dropping f f.queue p)).queue ≡ f.queue ++ p ∷ []))
      (λ _ e. (e, refl)) (λ _ e. dropping_clean f f.queue p e)

  pub pushes_clean : (size : ℕ) (f : Feed K I) (ps : List (ℕ × I)) → (push_all size f ps).skipped ≡ 0 → (f.skipped ≡ 0) × ((push_all size f ps).queue ≡ f.queue ++ ps)
  pushes_clean size f [] e = (e, sym (append-nil f.queue))
  pushes_clean size f (p ∷ ps) e =
      let r = pushes_clean size (push size f p) ps e in
      let h = push_clean size f p r.0 in
      (h.0, r.1 ∙ ap (λ q. q ++ ps) h.1 ∙ append_assoc f.queue (p ∷ []) ps)

  -- what is queued later bears a later stamp
  dropping_above : (n : ℕ) (f : Feed K I) (q : List (ℕ × I)) (p : ℕ × I) → n < p.0 → Above n q → Above n (dropping f q p).queue
  dropping_above n f [] p h a = (h, tt)
  dropping_above n f (o ∷ q) p h a = all_append (λ (p : ℕ × I). n < p.0) q (p ∷ []) a.1 (h, tt)

  push_above : (n size : ℕ) (f : Feed K I) (p : ℕ × I) → n < p.0 → Above n f.queue → Above n (push size f p).queue
  push_above n size f p h a = split (nat_lt (length f.queue) size)
      (λ b. Above n (cond b (record f { queue = f.queue ++ p ∷ [] }) (dropping f f.queue p)).queue)
      (λ _. all_append (λ (p : ℕ × I). n < p.0) f.queue (p ∷ []) a (h, tt)) (λ _. dropping_above n f f.queue p h a)

  pub pushes_above : (n size : ℕ) (f : Feed K I) (ps : List (ℕ × I)) → Above n ps → Above n f.queue → Above n (push_all size f ps).queue
  pushes_above n size f [] h a = a
  pushes_above n size f (p ∷ ps) h a = pushes_above n size (push size f p) ps h.1 (push_above n size f p h.0 a)

module _ {I : Type 0} where
  abbrev pub Rises : List (ℕ × I) → Type 0
  Rises [] = Unit {0}
  Rises (p ∷ ps) = AllByRecursion (λ (q : ℕ × I). p.0 ≤ q.0) ps × Rises ps

  rises_right : (xs ys : List (ℕ × I)) → Rises (xs ++ ys) → Rises ys
  rises_right [] ys r = r
  rises_right (x ∷ xs) ys r = rises_right xs ys r.1

  rises_append : (n : ℕ) (xs ys : List (ℕ × I)) → Rises xs → Below n xs → Rises ys → Above n ys → Rises (xs ++ ys)
  rises_append n [] ys r b s a = s
  rises_append n (x ∷ xs) ys r b s a = (
    all_append (λ (q : ℕ × I). x.0 ≤ q.0) xs ys r.0 (all_map (λ (q : ℕ × I). n < q.0) (λ (q : ℕ × I). x.0 ≤ q.0) (λ q h. omega (arith, b.0, h)) ys a),
    rises_append n xs ys r.1 b.1 s a,
  )

  -- after an item above n all are above it
  passed_rest : (n : ℕ) (xs ys : List (ℕ × I)) → IsPassed n xs → Rises (xs ++ ys) → Above n ys
  passed_rest n [] ys h r = absurd h
  passed_rest n (x ∷ xs) ys (inl h) r = all_map (λ (q : ℕ × I). x.0 ≤ q.0) (λ (q : ℕ × I). n < q.0) (λ q g. omega (arith, h, g)) ys (all_right (λ (q : ℕ × I). x.0 ≤ q.0) xs ys r.0)
  passed_rest n (x ∷ xs) ys (inr h) r = passed_rest n xs ys h r.1

  passed_below : (n b : ℕ) (xs : List (ℕ × I)) → IsPassed n xs → Below b xs → n ≤ b
  passed_below n b [] h w = absurd h
  passed_below n b (x ∷ xs) (inl h) w = omega (arith, h, w.0)
  passed_below n b (x ∷ xs) (inr h) w = passed_below n b xs h w.1

  stamped_rises : (n : ℕ) (is : List I) → Rises (map (λ i. (n, i)) is)
  stamped_rises n [] = tt
  stamped_rises n (i ∷ is) = (same is, stamped_rises n is)
    where
      same : (is : List I) → AllByRecursion (λ (q : ℕ × I). n ≤ q.0) (map (λ i. (n, i)) is)
      same [] = tt
      same (i ∷ is) = (omega arith, same is)

  stamped_below_self : (n : ℕ) (is : List I) → Below n (map (λ i. (n, i)) is)
  stamped_below_self n [] = tt
  stamped_below_self n (i ∷ is) = (omega arith, stamped_below_self n is)

  -- fewer than were asked for leave nothing
  taken_all : (max : ℕ) (xs : List (ℕ × I)) → length (take max xs) < max → drop max xs ≡ []
  taken_all zero xs h = absurd (omega (arith, h))
  taken_all (suc max) [] h = refl
  taken_all (suc max) (x ∷ xs) h = taken_all max xs (omega (arith, h))

module _ {D J W N P M X K I F : Type 0} (m : Feeding D J W N P M X K I F) (good : D → Type 0) (may : D → X → Type 0) (l : Folds m good may) (k : K) (d : D) (n : ℕ) where
  appended_rises : (d : D) (n : ℕ) (xs : List X) → Rises (appended m k d n xs)
  appended_rises d n [] = tt
  appended_rises d n (x ∷ xs) = rises_append (suc n) (map (λ i. (suc n, i)) (m.items k d x)) _ (stamped_rises (suc n) (m.items k d x)) (stamped_below_self (suc n) (m.items k d x))
      (appended_rises (m.change d x) (suc n) xs) (appended_above m k (m.change d x) (suc n) xs)

  -- of a feed that squashes: what was given folds to the value at some change, and what is queued comes after that
  pub record HeldJoined (q : List (ℕ × I)) (xs : List X) (g : List (ℕ × I)) : Type 0 where
    pub sent : List X
    pub more : List X
    pub all : xs ≡ sent ++ more
    pub queue : q ≡ appended m k (changed m d sent) (n + length sent) more
    pub folds : fold m k (m.value k d) (bare m g) ≡ m.value k (changed m d sent)
    pub below : Below (n + length sent) g

  abbrev pub Held : Bool → List (ℕ × I) → List X → List (ℕ × I) → Type 0
  Held false q xs g = g ++ q ≡ appended m k d n xs
  Held true q xs g = HeldJoined q xs g

  held_more : (b : Bool) (q : List (ℕ × I)) (xs : List X) (g : List (ℕ × I)) (x : X) → Held b q xs g → Held b (q ++ map (λ i. (suc (n + length xs), i)) (m.items k (changed m d xs) x)) (xs ++ x ∷ []) g
  held_more false q xs g x h =
      let s : List (ℕ × I) = map (λ i. (suc (n + length xs), i)) (m.items k (changed m d xs) x) in
      sym (append_assoc g q s) ∙ ap (λ z. z ++ s) h ∙ sym (appended_one m k d n xs x)
  held_more true q xs g x h =
      let at : changed m d xs ≡ changed m (changed m d h.sent) h.more = ap (λ z. changed m d z) h.all ∙ changed_append m d h.sent h.more in
      let stamp : n + length xs ≡ (n + length h.sent) + length h.more = omega (arith, ap length h.all, length-append h.sent h.more) in
      record {
        sent = h.sent;
        more = h.more ++ x ∷ [];
        all = ap (λ z. z ++ x ∷ []) h.all ∙ append_assoc h.sent h.more (x ∷ []);
        queue = (λ i. h.queue i ++ map (λ j. (suc (stamp i), j)) (m.items k (at i) x)) ∙ sym (appended_one m k (changed m d h.sent) (n + length h.sent) h.more x);
        folds = h.folds;
        below = h.below;
      }

  -- a Take of one kind and of the other
  held_take : (max : ℕ) (q : List (ℕ × I)) (xs : List X) (g : List (ℕ × I)) → Held false q xs g → Held false (drop max q) xs (g ++ take max q)
  held_take max q xs g h = append_assoc g (take max q) (drop max q) ∙ ap (λ z. g ++ z) (take-append-drop max q) ∙ h

  record AllGiven (xs : List X) (g : List (ℕ × I)) : Type 0 where
    pub folds : fold m k (m.value k d) (bare m g) ≡ m.value k (changed m d xs)
    pub below : Below (n + length xs) g

  join_take : m.squashes k ≡ true → good d → (q : List (ℕ × I)) (xs : List X) (g : List (ℕ × I)) → Comes m may d xs → HeldJoined q xs g → AllGiven xs (g ++ m.net k q)
  join_take s gd q xs g c h =
      let e : D = changed m d h.sent in
      let at : changed m d xs ≡ changed m e h.more = ap (λ z. changed m d z) h.all ∙ changed_append m d h.sent h.more in
      let len : n + length xs ≡ (n + length h.sent) + length h.more = omega (arith, ap length h.all, length-append h.sent h.more) in
      let cs : Comes m may d h.sent × Comes m may e h.more = comes_split d h.sent h.more (subst (λ z. Comes m may d z) h.all c) in
      record {
        folds = ap (λ z. fold m k (m.value k d) z) (bare_append m g (m.net k q)) ∙ fold_append m k (m.value k d) (bare m g) (bare m (m.net k q))
            ∙ ap (λ v. fold m k v (bare m (m.net k q))) h.folds ∙ ap (λ z. fold m k (m.value k e) (bare m (m.net k z))) h.queue
            ∙ l.joined k e (n + length h.sent) h.more s (good_changed m good may l d h.sent gd cs.0) cs.1 ∙ ap (λ z. m.value k z) (sym at);
        below = all_append (λ (p : ℕ × I). p.0 ≤ n + length xs) g (m.net k q) (below_more (n + length h.sent) (n + length xs) g (omega (arith, len)) h.below)
            (l.below k (n + length xs) q (subst (λ z. Below (n + length xs) z) (sym h.queue) (subst (λ z. Below z (appended m k e (n + length h.sent) h.more)) (sym len) (appended_below m k e (n + length h.sent) h.more))));
      }
    where
      comes_split : (d : D) (xs ys : List X) → Comes m may d (xs ++ ys) → Comes m may d xs × Comes m may (changed m d xs) ys
      comes_split d [] ys c = (tt, c)
      comes_split d (x ∷ xs) ys c = let r = comes_split (m.change d x) xs ys c.1 in ((c.0, r.0), r.1)

  all_given_held : (xs : List X) (g : List (ℕ × I)) → AllGiven xs g → HeldJoined [] xs g
  all_given_held xs g a = record { sent = xs; more = []; all = sym (append-nil xs); queue = refl; folds = a.folds; below = a.below }

  -- From some Take on nothing up to a stamp is to come, and what was given up to it folds to the value there.
  pub record Settled (at : ℕ) (q : List (ℕ × I)) (xs : List X) (g : List (ℕ × I)) : Type 0 where
    pub reached : at ≤ n + length xs
    pub above : Above at q
    pub folds : fold m k (m.value k d) (bare m (upto at g)) ≡ m.value k (changed m d (take (at - n) xs))

  settle : (at : ℕ) (q : List (ℕ × I)) (xs : List X) (g : List (ℕ × I)) → m.squashes k ≡ false → good d → Comes m may d xs → n ≤ at → at ≤ n + length xs → Above at q → Held false q xs g → Settled at q xs g
  settle at q xs g s gd c le ge a h =
      let j : ℕ = at - n in
      let e : at ≡ n + j = omega (arith, le) in
      record {
        reached = ge;
        above = a;
        folds = ap (λ z. fold m k (m.value k d) (bare m z)) (sym (upto_front at g q a) ∙ ap (λ z. upto at z) h ∙ ap (λ z. upto z (appended m k d n xs)) e ∙ upto_appended m k d n j xs)
            ∙ fold_appended m good may l k d n (take j xs) s gd (comes_take m good may d j xs c);
      }

  settle_all : (xs : List X) (g : List (ℕ × I)) → AllGiven xs g → Settled (n + length xs) [] xs g
  settle_all xs g a = record {
    reached = omega arith;
    above = tt;
    folds = ap (λ z. fold m k (m.value k d) (bare m z)) (upto_all (n + length xs) g a.below) ∙ a.folds ∙ ap (λ z. m.value k (changed m d z)) (sym (ap (λ j. take j xs) (omega arith) ∙ take_whole xs));
  }
    where
      take_whole : (xs : List X) → take (length xs) xs ≡ xs
      take_whole [] = refl
      take_whole (x ∷ xs) = ap (λ z. x ∷ z) (take_whole xs)

  -- what a Take leaves and gives, of either kind
  pub held_left : (b : Bool) → m.squashes k ≡ b → good d → (max : ℕ) (q : List (ℕ × I)) (xs : List X) (g : List (ℕ × I)) → Comes m may d xs → Held b q xs g → Held b (cond b [] (drop max q)) xs (g ++ cond b (m.net k q) (take max q))
  held_left false s gd max q xs g c h = held_take max q xs g h
  held_left true s gd max q xs g c h = all_given_held xs (g ++ m.net k q) (join_take s gd q xs g c h)

  rises_queue : (q : List (ℕ × I)) (xs : List X) (g : List (ℕ × I)) → Held false q xs g → Rises q
  rises_queue q xs g h = rises_right g q (subst Rises (sym h) (appended_rises d n xs))

  below_queue : (q : List (ℕ × I)) (xs : List X) (g : List (ℕ × I)) → Held false q xs g → Below (n + length xs) q
  below_queue q xs g h = all_right (λ (p : ℕ × I). p.0 ≤ n + length xs) g q (subst (λ z. Below (n + length xs) z) (sym h) (appended_below m k d n xs))

  -- a Take that decides settles
  pub settled_batch : (b : Bool) → m.squashes k ≡ b → good d → (at max stamp skipped last : ℕ) (q : List (ℕ × I)) (xs : List X) (g : List (ℕ × I)) → stamp ≡ n + length xs → Comes m may d xs → n ≤ at → Held b q xs g →
      Decides {M = M} {I = I} b at (record { max = max; stamp = stamp; said = said.Batch skipped last (cond b (m.net k q) (take max q)) }) → Settled at (cond b [] (drop max q)) xs (g ++ cond b (m.net k q) (take max q))
  settled_batch false s gd at max stamp skipped last q xs g e c le h (inl p) =
      settle at (drop max q) xs (g ++ take max q) s gd c le (passed_below at (n + length xs) (take max q) p (all_take (λ (p : ℕ × I). p.0 ≤ n + length xs) max q (below_queue q xs g h)))
      (passed_rest at (take max q) (drop max q) p (subst Rises (sym (take-append-drop max q)) (rises_queue q xs g h))) (held_take max q xs g h)
  settled_batch false s gd at max stamp skipped last q xs g e c le h (inr p) =
      settle at (drop max q) xs (g ++ take max q) s gd c le (omega (arith, p.0, e)) (subst (λ z. Above at z) (sym (taken_all max q p.1)) tt) (held_take max q xs g h)
  settled_batch true s gd at max stamp skipped last q xs g e c le h p =
      subst (λ a. Settled a [] xs (g ++ m.net k q)) (sym (p ∙ e)) (settle_all xs (g ++ m.net k q) (join_take s gd q xs g c h))

  pub settled_gone : (b : Bool) → m.squashes k ≡ b → good d → (at max stamp : ℕ) (xs : List X) (g : List (ℕ × I)) → stamp ≡ n + length xs → Comes m may d xs → n ≤ at → Held b [] xs g →
      Decides {M = M} {I = I} b at (record { max = max; stamp = stamp; said = said.Gone }) → Settled at [] xs (g ++ [])
  settled_gone false s gd at max stamp xs g e c le h p = settle at [] xs (g ++ []) s gd c le (omega (arith, p, e)) tt (append-nil (g ++ []) ∙ append-nil g ∙ sym (append-nil g) ∙ h)
  settled_gone true s gd at max stamp xs g e c le h p =
      subst (λ a. Settled a [] xs (g ++ [])) (sym (p ∙ e)) (settle_all xs (g ++ []) (subst (λ z. AllGiven xs (g ++ z)) (l.none k) (join_take s gd [] xs g c h)))

  -- of a feed: what holds while nothing was skipped
  abbrev pub Holds : List (ℕ × I) → Feed K I → List X → Type 0
  Holds g f xs = f.skipped ≡ 0 → Held (m.squashes k) f.queue xs g

  pub holds_on : (g : List (ℕ × I)) → GoesOn m good may l (Holds g) k d n
  holds_on g f xs x kept gd c mx h = λ e.
      let is : K → List (ℕ × I) = λ j. map (λ i. (suc (n + length xs), i)) (m.items j (changed m d xs) x) in
      let r = pushes_clean (m.size f.kept) f (is f.kept) e in
      subst (λ q. Held (m.squashes k) q (xs ++ x ∷ []) g) (sym (r.1 ∙ ap (λ j. f.queue ++ is j) kept)) (held_more (m.squashes k) f.queue xs g x (h r.0))

  -- of a feed: nothing up to this stamp is to come
  abbrev pub IsAbove : ℕ → Feed K I → List X → Type 0
  IsAbove at f xs = (at ≤ n + length xs) × Above at f.queue

  pub above_on : (at : ℕ) → GoesOn m good may l (IsAbove at) k d n
  above_on at f xs x kept gd c mx h = (
    omega (arith, h.0, length-append xs (x ∷ [])),
    pushes_above at (m.size f.kept) f (map (λ i. (suc (n + length xs), i)) (m.items f.kept (changed m d xs) x)) (stamped_above at (suc (n + length xs)) (m.items f.kept (changed m d xs) x) (omega (arith, h.0))) h.1,
  )
