-- Maps by rising keys that are parts joined: what rises, and what is found, put and left out in a part.
use Rattle.std.proofs.Common.{◌≡◌, List, [], ◌∷◌, ◌++◌, Bool, true, false, cond, Some, None, Ordering, Less, Equal, Greater, is_eq, refl, ap, ◌∙◌}
use Rattle.std.specs.List.{AllByRecursion}
use Rattle.std.specs.List.Sorted.{IsStrictlySortedBy}
use Rattle.std.specs.Map.{keys_of}
use Rattle.std.specs.Ordering.{match_ordering}
use Rattle.std.specs.Cmp.{IsTotalOrder}
use Rattle.reql_memory.specs.Sorted.{AreRisingBy, find_by, put_by, without_by, AreBelowBy, AllBelowBy, OpensAboveBy}
use Rattle.reql_memory.proofs.Sorted.{find_gap, without_gap}

module _ {K V : Type 0} (P : K → Type 0) where
  pub all_front : (a b : List (K × V)) → AllByRecursion P (keys_of (a ++ b)) → AllByRecursion P (keys_of a)
  all_front [] b all = tt
  all_front (m ∷ ms) b all = (all.0, all_front ms b all.1)

  pub all_back : (a b : List (K × V)) → AllByRecursion P (keys_of (a ++ b)) → AllByRecursion P (keys_of b)
  all_back [] b all = all
  all_back (m ∷ ms) b all = all_back ms b all.1

  pub all_joined : (a b : List (K × V)) → AllByRecursion P (keys_of a) → AllByRecursion P (keys_of b) → AllByRecursion P (keys_of (a ++ b))
  all_joined [] b all more = more
  all_joined (m ∷ ms) b all more = (all.0, all_joined ms b all.1 more)

module _ {K : Type 0} (cmp : K → K → Ordering) (total : IsTotalOrder cmp) {V : Type 0} where
  pub rising_front : (a b : List (K × V)) → AreRisingBy cmp (a ++ b) → AreRisingBy cmp a
  unfolding IsStrictlySortedBy
  rising_front [] b up = tt
  rising_front (m ∷ ms) b up = (all_front (λ y. cmp m.0 y ≡ Less) ms b up.0, rising_front ms b up.1)

  pub rising_back : (a b : List (K × V)) → AreRisingBy cmp (a ++ b) → AreRisingBy cmp b
  unfolding IsStrictlySortedBy
  rising_back [] b up = up
  rising_back (m ∷ ms) b up = rising_back ms b up.1

  -- two parts rise joined where each key of the first is below those of the second
  pub rising_joined : (a b : List (K × V)) → AreRisingBy cmp a → AreRisingBy cmp b → AreBelowBy cmp a b → AreRisingBy cmp (a ++ b)
  unfolding IsStrictlySortedBy
  rising_joined [] b up on below = on
  rising_joined (m ∷ ms) b up on below = (all_joined (λ y. cmp m.0 y ≡ Less) ms b up.0 below.0, rising_joined ms b up.1 on below.1)

  module _ (k : K) where
    -- past a part whose keys are below k
    pub find_past : (a b : List (K × V)) → AllBelowBy cmp k a → find_by cmp k (a ++ b) ≡ find_by cmp k b
    find_past [] b all = refl
    find_past (m ∷ ms) b all = rw (all.0) (find_past ms b all.1)

    pub put_past : (v : V) (a b : List (K × V)) → AllBelowBy cmp k a → put_by cmp k v (a ++ b) ≡ a ++ put_by cmp k v b
    put_past v [] b all = refl
    put_past v (m ∷ ms) b all = rw (all.0) (ap (λ t. m ∷ t) (put_past v ms b all.1))

    pub without_past : (a b : List (K × V)) → AllBelowBy cmp k a → without_by cmp k (a ++ b) ≡ a ++ without_by cmp k b
    without_past [] b all = refl
    without_past (m ∷ ms) b all = rw (all.0) (ap (λ t. m ∷ t) (without_past ms b all.1))

    find_none : (b : List (K × V)) → AreRisingBy cmp b → OpensAboveBy cmp k b → find_by cmp k b ≡ None
    find_none [] up h = refl
    find_none (n ∷ ns) up h = find_gap cmp total (n ∷ ns) k 0 up h

    -- before a part whose keys are above k
    pub find_front : (a b : List (K × V)) → AreRisingBy cmp b → OpensAboveBy cmp k b → find_by cmp k (a ++ b) ≡ find_by cmp k a
    find_front [] b up h = find_none b up h
    find_front (m ∷ ms) b up h = ap (cond (is_eq (cmp k m.0)) (Some m.1)) (find_front ms b up h)

    put_front_at : (o : Ordering) (v : V) (m : K × V) (ms b rest : List (K × V)) → rest ≡ put_by cmp k v ms ++ b
        → match_ordering o ((k, v) ∷ m ∷ (ms ++ b)) ((m.0, v) ∷ (ms ++ b)) (m ∷ rest) ≡ match_ordering o ((k, v) ∷ m ∷ ms) ((m.0, v) ∷ ms) (m ∷ put_by cmp k v ms) ++ b
    put_front_at Less v m ms b rest e = refl
    put_front_at Equal v m ms b rest e = refl
    put_front_at Greater v m ms b rest e = ap (λ t. m ∷ t) e

    pub put_front : (v : V) (a b : List (K × V)) → OpensAboveBy cmp k b → put_by cmp k v (a ++ b) ≡ put_by cmp k v a ++ b
    put_front v [] [] h = refl
    put_front v [] (n ∷ ns) h = rw h refl
    put_front v (m ∷ ms) b h = put_front_at (cmp k m.0) v m ms b (put_by cmp k v (ms ++ b)) (put_front v ms b h)

    without_front_at : (e : Bool) (m : K × V) (ms b rest : List (K × V)) → rest ≡ without_by cmp k ms ++ b → cond e (ms ++ b) (m ∷ rest) ≡ cond e ms (m ∷ without_by cmp k ms) ++ b
    without_front_at true m ms b rest e = refl
    without_front_at false m ms b rest e = ap (λ t. m ∷ t) e

    pub without_front : (a b : List (K × V)) → AreRisingBy cmp b → OpensAboveBy cmp k b → without_by cmp k (a ++ b) ≡ without_by cmp k a ++ b
    without_front [] b up h = without_gap cmp total b k (find_none b up h)
    without_front (m ∷ ms) b up h = without_front_at (is_eq (cmp k m.0)) m ms b (without_by cmp k (ms ++ b)) (without_front ms b up h)

    -- in the middle of three parts
    module _ (l m r : List (K × V)) (below : AllBelowBy cmp k l) (above : OpensAboveBy cmp k r) where
      pub find_middle : AreRisingBy cmp r → find_by cmp k (l ++ (m ++ r)) ≡ find_by cmp k m
      find_middle up = find_past l (m ++ r) below ∙ find_front m r up above

      pub put_middle : (v : V) → put_by cmp k v (l ++ (m ++ r)) ≡ l ++ (put_by cmp k v m ++ r)
      put_middle v = put_past v l (m ++ r) below ∙ ap (λ t. l ++ t) (put_front v m r above)

      pub without_middle : AreRisingBy cmp r → without_by cmp k (l ++ (m ++ r)) ≡ l ++ (without_by cmp k m ++ r)
      without_middle up = without_past l (m ++ r) below ∙ ap (λ t. l ++ t) (without_front m r up above)
