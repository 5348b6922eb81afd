-- A map whose keys and values are each changed, where the new keys stand as the old ones did.
use Rattle.std.proofs.Common.{◌≡◌, List, [], ◌∷◌, map, Bool, true, false, cond, Option, Some, option_map, Ordering, Less, Equal, Greater, is_eq, refl, ap, ◌∙◌}
use Rattle.std.specs.List.{AllByRecursion}
use Rattle.std.specs.List.Sorted.{IsStrictlySortedBy}
use Rattle.std.specs.Map.{keys_of}
use Rattle.std.specs.Ordering.{match_ordering}
use Rattle.reql_memory.specs.Sorted.{AreRisingBy, find_by, put_by, without_by}

module _ {K L V W : Type 0} (cmp : K → K → Ordering) (order : L → L → Ordering) (f : K → L) (g : V → W) (alike : (j k : K) → order (f j) (f k) ≡ cmp j k) where
  abbrev pub each : K × V → L × W
  each m = (f m.0, g m.1)

  all_mapped : (k : K) (ms : List (K × V)) → AllByRecursion (λ y. cmp k y ≡ Less) (keys_of ms) → AllByRecursion (λ y. order (f k) y ≡ Less) (keys_of (map each ms))
  all_mapped k [] all = tt
  all_mapped k (m ∷ ms) all = (alike k m.0 ∙ all.0, all_mapped k ms all.1)

  pub rising_map : (ms : List (K × V)) → AreRisingBy cmp ms → AreRisingBy order (map each ms)
  unfolding IsStrictlySortedBy
  rising_map [] up = tt
  rising_map (m ∷ ms) up = (all_mapped m.0 ms up.0, rising_map ms up.1)

  module _ (k : K) where
    find_at : (b : Bool) (m : K × V) (found : Option V) → cond b (Some (g m.1)) (option_map g found) ≡ option_map g (cond b (Some m.1) found)
    find_at true m found = refl
    find_at false m found = refl

    pub find_map : (ms : List (K × V)) → find_by order (f k) (map each ms) ≡ option_map g (find_by cmp k ms)
    find_map [] = refl
    find_map (m ∷ ms) = rw (alike k m.0) (ap (cond (is_eq (cmp k m.0)) (Some (g m.1))) (find_map ms) ∙ find_at (is_eq (cmp k m.0)) m (find_by cmp k ms))

    put_at : (o : Ordering) (v : V) (m : K × V) (ms rest : List (K × V)) (later : List (L × W)) → later ≡ map each rest
        → match_ordering o ((f k, g v) ∷ each m ∷ map each ms) ((f m.0, g v) ∷ map each ms) (each m ∷ later) ≡ map each (match_ordering o ((k, v) ∷ m ∷ ms) ((m.0, v) ∷ ms) (m ∷ rest))
    put_at Less v m ms rest later is = refl
    put_at Equal v m ms rest later is = refl
    put_at Greater v m ms rest later is = ap (λ t. each m ∷ t) is

    pub put_map : (v : V) (ms : List (K × V)) → put_by order (f k) (g v) (map each ms) ≡ map each (put_by cmp k v ms)
    put_map v [] = refl
    put_map v (m ∷ ms) = rw (alike k m.0) (put_at (cmp k m.0) v m ms (put_by cmp k v ms) (put_by order (f k) (g v) (map each ms)) (put_map v ms))

    without_at : (b : Bool) (m : K × V) (ms rest : List (K × V)) (later : List (L × W)) → later ≡ map each rest → cond b (map each ms) (each m ∷ later) ≡ map each (cond b ms (m ∷ rest))
    without_at true m ms rest later is = refl
    without_at false m ms rest later is = ap (λ t. each m ∷ t) is

    pub without_map : (ms : List (K × V)) → without_by order (f k) (map each ms) ≡ map each (without_by cmp k ms)
    without_map [] = refl
    without_map (m ∷ ms) = rw (alike k m.0) (without_at (is_eq (cmp k m.0)) m ms (without_by cmp k ms) (without_by order (f k) (map each ms)) (without_map ms))
