-- What a search among rising keys finds, and what an edit at that place does.
use Rattle.std.proofs.Common.{◌≡◌, ℕ, zero, suc, ◌<◌, ◌≤◌, ◌-◌, List, [], ◌∷◌, ◌++◌, length, get_or, slice_get, set, map, Option, Some, None, Result, Ok, Err, IfOk, IfErr, Ordering, Less, Equal, Greater, refl, sym, ap, ◌∙◌, arith, append_assoc, cond, Bool, true, false, is_eq}
use Rattle.std.specs.List.{insert, remove, AllByRecursion}
use Rattle.std.specs.List.Sorted.{IsStrictlySortedBy, IsNonDecreasingBy, IsSearchInRange, IsBinarySearchResult}
use Rattle.std.specs.Ordering.{ordering_reverse, ordering_index, match_ordering}
use Rattle.std.specs.Map.{keys_of}
use Rattle.std.specs.Cmp.{IsTotalOrder}
use Rattle.std.proofs.lemmas.Cmp.{tied_back, alike_right}
use Rattle.std.proofs.lemmas.List.{get_or-map, length-map}
use Rattle.reql_memory.specs.Sorted.{AreRisingBy, find_by, put_by, without_by, IsHitBy, IsGapBy}

index_le : (o : Ordering) → ordering_index o ≤ 2
index_le Less = omega arith
index_le Equal = omega arith
index_le Greater = omega arith

pub some_inside : {X : Type 0} (x y : X) → Some x ≡ Some y → x ≡ y
some_inside x y is = cc

module _ {K : Type 0} (cmp : K → K → Ordering) (total : IsTotalOrder cmp) where
  pub below_flip : (k l : K) → cmp l k ≡ Less → cmp k l ≡ Greater
  below_flip k l h = total.antisymm k l ∙ ap ordering_reverse h

  pub above_flip : (k l : K) → cmp l k ≡ Greater → cmp k l ≡ Less
  above_flip k l h = total.antisymm k l ∙ ap ordering_reverse h

  -- the keys after the first are above it
  above_first : (l : K) (ls : List K) (i : ℕ) (d : K) → AllByRecursion (λ y. cmp l y ≡ Less) ls → i < length ls → cmp l (get_or ls i d) ≡ Less
  above_first l [] i d h lt = absurd (omega arith)
  above_first l (k ∷ ks) zero d h lt = h.0
  above_first l (k ∷ ks) (suc i) d h lt = above_first l ks i d h.1 (omega arith)

  all_above : (k l : K) (ls : List K) → cmp k l ≡ Less → AllByRecursion (λ y. cmp l y ≡ Less) ls → AllByRecursion (λ y. cmp k y ≡ Less) ls
  all_above k l [] h all = tt
  all_above k l (y ∷ ys) h all = (total.trans k l y h all.0, all_above k l ys h all.1)

  pub hit_from : (ls : List K) (k : K) (i : ℕ) → IsStrictlySortedBy cmp ls → i < length ls → ((d : K) → cmp (get_or ls i d) k ≡ Equal) → IsHitBy cmp ls k i
  unfolding IsStrictlySortedBy
  hit_from [] k i up lt h = absurd (omega arith)
  hit_from (l ∷ ls) k zero up lt h = tied_back total l k (h l)
  hit_from (l ∷ ls) k (suc i) up lt h =
      let above : cmp l (get_or ls i l) ≡ Less = above_first l ls i l up.0 (omega arith) in
      let here : cmp k (get_or ls i l) ≡ Equal = tied_back total (get_or ls i l) k (h l) in
      (total.congr k (get_or ls i l) l here ∙ below_flip (get_or ls i l) l above, hit_from ls k i up.1 (omega arith) h)

  pub gap_from : (ls : List K) (k : K) (i : ℕ) → i ≤ length ls → ((j : ℕ) (d : K) → j < i → cmp (get_or ls j d) k ≡ Less) → ((j : ℕ) (d : K) → i ≤ j → j < length ls → cmp (get_or ls j d) k ≡ Greater) → IsGapBy cmp ls k i
  gap_from [] k zero lt below above = tt
  gap_from [] k (suc i) lt below above = absurd (omega arith)
  gap_from (l ∷ ls) k zero lt below above = above_flip k l (above 0 l (omega arith) (omega arith))
  gap_from (l ∷ ls) k (suc i) lt below above =
      (below_flip k l (below 0 l (omega arith)), gap_from ls k i (omega arith) (λ j d h. below (suc j) d (omega arith)) (λ j d h g. above (suc j) d (omega arith) (omega arith)))

  pub rising_nil : (V : Type 0) → AreRisingBy cmp {V = V} []
  unfolding IsStrictlySortedBy
  rising_nil V = tt

  module _ {V : Type 0} where
    pub find_hit : (ms : List (K × V)) (k : K) (i : ℕ) (d : K × V) → IsHitBy cmp (keys_of ms) k i → find_by cmp k ms ≡ Some (get_or ms i d).1
    find_hit [] k i d h = absurd h
    find_hit (m ∷ ms) k zero d h = rw h
    find_hit (m ∷ ms) k (suc i) d h = rw (h.0) (find_hit ms k i d h.1)

    pub set_hit : (ms : List (K × V)) (k : K) (v : V) (i : ℕ) (d : K × V) → IsHitBy cmp (keys_of ms) k i → set ms i ((get_or ms i d).0, v) ≡ put_by cmp k v ms
    set_hit [] k v i d h = absurd h
    set_hit (m ∷ ms) k v zero d h = rw h
    set_hit (m ∷ ms) k v (suc i) d h = rw (h.0) (ap (λ t. m ∷ t) (set_hit ms k v i d h.1))

    pub insert_gap : (ms : List (K × V)) (k : K) (v : V) (i : ℕ) → IsGapBy cmp (keys_of ms) k i → insert ms i (k, v) ≡ put_by cmp k v ms
    insert_gap [] k v zero h = refl
    insert_gap [] k v (suc i) h = absurd h
    insert_gap (m ∷ ms) k v zero h = rw h
    insert_gap (m ∷ ms) k v (suc i) h = rw (h.0) (ap (λ t. m ∷ t) (insert_gap ms k v i h.1))

    pub remove_hit : (ms : List (K × V)) (k : K) (i : ℕ) → IsHitBy cmp (keys_of ms) k i → remove ms i ≡ without_by cmp k ms
    remove_hit [] k i h = absurd h
    remove_hit (m ∷ ms) k zero h = rw h
    remove_hit (m ∷ ms) k (suc i) h = rw (h.0) (ap (λ t. m ∷ t) (remove_hit ms k i h.1))

    find_below : (k : K) (ms : List (K × V)) → AllByRecursion (λ y. cmp k y ≡ Less) (keys_of ms) → find_by cmp k ms ≡ None
    find_below k [] all = refl
    find_below k (m ∷ ms) all = rw (all.0) (find_below k ms all.1)

    pub find_gap : (ms : List (K × V)) (k : K) (i : ℕ) → AreRisingBy cmp ms → IsGapBy cmp (keys_of ms) k i → find_by cmp k ms ≡ None
    unfolding IsStrictlySortedBy
    find_gap [] k i up h = refl
    find_gap (m ∷ ms) k zero up h = find_below k (m ∷ ms) (h, all_above k m.0 (keys_of ms) h up.0)
    find_gap (m ∷ ms) k (suc i) up h = rw (h.0) (find_gap ms k i up.1 h.1)

    without_gap_at : (o : Ordering) (m : K × V) (ms : List (K × V)) (found : Option V) (rest : List (K × V)) → (found ≡ None → rest ≡ ms) → cond (is_eq o) (Some m.1) found ≡ None → cond (is_eq o) ms (m ∷ rest) ≡ m ∷ ms
    without_gap_at Less m ms found rest on h = ap (λ t. m ∷ t) (on h)
    without_gap_at Equal m ms found rest on h = cc
    without_gap_at Greater m ms found rest on h = ap (λ t. m ∷ t) (on h)

    pub without_gap : (ms : List (K × V)) (k : K) → find_by cmp k ms ≡ None → without_by cmp k ms ≡ ms
    without_gap [] k h = refl
    without_gap (m ∷ ms) k h = without_gap_at (cmp k m.0) m ms (find_by cmp k ms) (without_by cmp k ms) (without_gap ms k) h

    all_at : (o : Ordering) (P : K → Type 0) (us bs cs : List (K × V)) → AllByRecursion P (keys_of us) → AllByRecursion P (keys_of bs) → AllByRecursion P (keys_of cs) → AllByRecursion P (keys_of (match_ordering o us bs cs))
    all_at Less P us bs cs a b c = a
    all_at Equal P us bs cs a b c = b
    all_at Greater P us bs cs a b c = c

    above_put : (l k : K) (v : V) (ms : List (K × V)) → cmp l k ≡ Less → AllByRecursion (λ y. cmp l y ≡ Less) (keys_of ms) → AllByRecursion (λ y. cmp l y ≡ Less) (keys_of (put_by cmp k v ms))
    above_put l k v [] h all = (h, tt)
    above_put l k v (m ∷ ms) h all =
        all_at (cmp k m.0) (λ y. cmp l y ≡ Less) ((k, v) ∷ m ∷ ms) ((m.0, v) ∷ ms) (m ∷ put_by cmp k v ms) (h, all) all (all.0, above_put l k v ms h all.1)

    rising_put_at : (o : Ordering) (k : K) (v : V) (m : K × V) (ms : List (K × V)) → cmp k m.0 ≡ o → AreRisingBy cmp (m ∷ ms) → AreRisingBy cmp (put_by cmp k v ms) → AreRisingBy cmp (match_ordering o ((k, v) ∷ m ∷ ms) ((m.0, v) ∷ ms) (m ∷ put_by cmp k v ms))
    unfolding IsStrictlySortedBy
    rising_put_at Less k v m ms is up on = ((is, all_above k m.0 (keys_of ms) is up.0), up)
    rising_put_at Equal k v m ms is up on = up
    rising_put_at Greater k v m ms is up on = (above_put m.0 k v ms (above_flip m.0 k is) up.0, on)

    pub rising_put : (k : K) (v : V) (ms : List (K × V)) → AreRisingBy cmp ms → AreRisingBy cmp (put_by cmp k v ms)
    unfolding IsStrictlySortedBy
    rising_put k v [] up = (tt, tt)
    rising_put k v (m ∷ ms) up = rising_put_at (cmp k m.0) k v m ms refl up (rising_put k v ms up.1)

    above_without : (b : Bool) (P : K → Type 0) (m : K × V) (ms rest : List (K × V)) → AllByRecursion P (keys_of (m ∷ ms)) → AllByRecursion P (keys_of rest) → AllByRecursion P (keys_of (cond b ms (m ∷ rest)))
    above_without true P m ms rest all on = all.1
    above_without false P m ms rest all on = (all.0, on)

    all_without : (P : K → Type 0) (k : K) (ms : List (K × V)) → AllByRecursion P (keys_of ms) → AllByRecursion P (keys_of (without_by cmp k ms))
    all_without P k [] all = tt
    all_without P k (m ∷ ms) all = above_without (is_eq (cmp k m.0)) P m ms (without_by cmp k ms) all (all_without P k ms all.1)

    rising_without_at : (b : Bool) (m : K × V) (ms rest : List (K × V)) → AreRisingBy cmp (m ∷ ms) → AllByRecursion (λ y. cmp m.0 y ≡ Less) (keys_of rest) → AreRisingBy cmp rest → AreRisingBy cmp (cond b ms (m ∷ rest))
    unfolding IsStrictlySortedBy
    rising_without_at true m ms rest up all on = up.1
    rising_without_at false m ms rest up all on = (all, on)

    pub rising_without : (k : K) (ms : List (K × V)) → AreRisingBy cmp ms → AreRisingBy cmp (without_by cmp k ms)
    unfolding IsStrictlySortedBy
    rising_without k [] up = tt
    rising_without k (m ∷ ms) up =
        rising_without_at (is_eq (cmp k m.0)) m ms (without_by cmp k ms) up (all_without (λ y. cmp m.0 y ≡ Less) k ms up.0) (rising_without k ms up.1)

  index_rises : (a b k : K) (o : Ordering) → cmp b k ≡ o → cmp a b ≡ Less → ordering_index (cmp a k) ≤ ordering_index o
  index_rises a b k Less is h = rw (total.trans a b k h is) (omega arith)
  index_rises a b k Equal is h = rw (sym (alike_right total b k a is) ∙ h) (omega arith)
  index_rises a b k Greater is h = index_le (cmp a k)

  -- the comparisons with k rise along keys that rise, as a binary search asks
  module _ {X : Type 0} (key : X → K) (k : K) where
    pub comparisons_rise : (xs : List X) → IsStrictlySortedBy cmp (map key xs) → IsNonDecreasingBy (λ x. ordering_index (cmp (key x) k)) xs
    unfolding IsStrictlySortedBy
    comparisons_rise [] up i j d h lt = absurd (omega arith)
    comparisons_rise (x ∷ xs) up zero zero d h lt = omega arith
    comparisons_rise (x ∷ xs) up (suc i) zero d h lt = absurd (omega arith)
    comparisons_rise (x ∷ xs) up (suc i) (suc j) d h lt = comparisons_rise xs up.1 i j d (omega arith) (omega arith)
    comparisons_rise (x ∷ xs) up zero (suc j) d h lt =
        let above : cmp (key x) (get_or (map key xs) j (key x)) ≡ Less = above_first (key x) (map key xs) j (key x) up.0 (omega (arith, length-map xs key)) in
        index_rises (key x) (key (get_or xs j d)) k _ refl (rw (get_or-map key xs j d (key x) (omega arith)) at above)

    -- what a binary search by key answers
    pub searched : (xs : List X) → IsStrictlySortedBy cmp (map key xs) → (r : Result ℕ ℕ) → IsSearchInRange r (length xs) → IsBinarySearchResult (λ x. cmp (key x) k) xs r
        → record { found : IfOk r (IsHitBy cmp (map key xs) k); absent : IfErr r (IsGapBy cmp (map key xs) k) }
    searched [] up (Ok i) lt equal = absurd (omega arith)
    searched (x ∷ xs) up (Ok i) lt equal = record {
      found = hit_from (map key (x ∷ xs)) k i up (omega (arith, length-map xs key)) (λ d. rw (get_or-map key (x ∷ xs) i x d lt) (equal x));
      absent = tt;
    }
    searched [] up (Err zero) lt parted = record { found = tt; absent = tt }
    searched [] up (Err (suc i)) lt parted = absurd (omega arith)
    searched (x ∷ xs) up (Err i) lt parted =
        let parts = parted (comparisons_rise (x ∷ xs) up) in record {
          found = tt;
          absent = gap_from (map key (x ∷ xs)) k i (omega (arith, length-map xs key))
              (λ j d h. rw (get_or-map key (x ∷ xs) j x d (omega arith)) (parts.0 j x (omega arith) h))
              (λ j d h g. let in_range : j < length (x ∷ xs) = omega (arith, length-map xs key) in rw (get_or-map key (x ∷ xs) j x d in_range) (parts.1 j x h in_range));
        }

    -- a key above the last one would stand at the end
    gap_after : (xs : List X) (x : X) (i : ℕ) → IsStrictlySortedBy cmp (map key xs) → suc i ≡ length xs → Some x ≡ slice_get xs i → cmp (key x) k ≡ Less → IsGapBy cmp (map key xs) k (length xs)
    unfolding IsStrictlySortedBy
    gap_after [] x i up at is h = tt
    gap_after (y ∷ []) x zero up at is h = (below_flip k (key y) (rw (some_inside x y is) at h), tt)
    gap_after (y ∷ []) x (suc i) up at is h = absurd (omega arith)
    gap_after (y ∷ z ∷ zs) x zero up at is h = absurd (omega arith)
    gap_after (y ∷ z ∷ zs) x (suc i) up at is h =
        let rest = gap_after (z ∷ zs) x i up.1 (omega arith) is h in
        (below_flip k (key y) (total.trans (key y) (key z) k up.0.0 (above_flip (key z) k rest.0)), rest)

    pub gap_last : (xs : List X) (x : X) → IsStrictlySortedBy cmp (map key xs) → Some x ≡ slice_get xs (length xs - 1) → cmp (key x) k ≡ Less → IsGapBy cmp (map key xs) k (length xs)
    gap_last [] x up is h = tt
    gap_last (y ∷ ys) x up is h =
        let e : length (y ∷ ys) - 1 ≡ length ys = omega arith in
        gap_after (y ∷ ys) x (length ys) up refl (rw e at is) h

  module _ {V : Type 0} where
    among : (P : K → Type 0) (done rest : List (K × V)) (k : K) (v : V) → AllByRecursion P (keys_of (done ++ (k, v) ∷ rest)) → P k
    among P [] rest k v all = all.0
    among P (m ∷ ms) rest k v all = among P ms rest k v all.1

    -- a key above those before it goes last
    pub put_next : (done rest : List (K × V)) (k : K) (v : V) → AreRisingBy cmp (done ++ (k, v) ∷ rest) → put_by cmp k v done ≡ done ++ (k, v) ∷ []
    unfolding IsStrictlySortedBy
    put_next [] rest k v up = refl
    put_next (m ∷ ms) rest k v up = rw (below_flip k m.0 (among (λ y. cmp m.0 y ≡ Less) ms rest k v up.0)) (ap (λ t. m ∷ t) (put_next ms rest k v up.1))

    -- a step of a loop that builds a map by rising keys: what is done, and what is still to come, is the whole
    pub put_step : (done rest all : List (K × V)) (k : K) (v : V) → AreRisingBy cmp all → done ++ (k, v) ∷ rest ≡ all → put_by cmp k v done ++ rest ≡ all
    put_step done rest all k v up is = ap (λ t. t ++ rest) (put_next done rest k v (rw is up)) ∙ append_assoc done ((k, v) ∷ []) rest ∙ is

    pub rising_rest : (m : K × V) (ms : List (K × V)) → AreRisingBy cmp (m ∷ ms) → AreRisingBy cmp ms
    unfolding IsStrictlySortedBy
    rising_rest m ms up = up.1

    -- a key is not among those after it
    pub not_later : (k : K) (v : V) (ms : List (K × V)) → AreRisingBy cmp ((k, v) ∷ ms) → find_by cmp k ms ≡ None
    unfolding IsStrictlySortedBy
    not_later k v ms up = find_below k ms up.0
