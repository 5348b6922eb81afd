-- What is found, put and left out among pairs that are two parts.
use Rattle.std.proofs.Common.{◌≡◌, ◌<◌, List, [], ◌∷◌, ◌++◌, length, Bool, true, false, cond, Some, None, Ordering, Less, Equal, Greater, is_eq, refl, ap, ◌∙◌, arith}
use Rattle.std.specs.List.Sorted.{IsStrictlySortedBy}
use Rattle.std.specs.Ordering.{match_ordering}
use Rattle.reql_datum.specs.Plain.{Plain}
use Rattle.reql_datum.specs.Order.{order}
use Rattle.reql_datum.specs.Total.{order_total}
use Rattle.reql_memory.proofs.Sorted.{above_flip, below_flip, find_gap, without_gap}
use Rattle.reql_ptree.specs.Pairs.{AreRising, Opens, find, put, without}
use Rattle.reql_ptree.specs.Next.{is_behind}
use Rattle.reql_ptree.specs.Turn.{AllBelow}
use Rattle.reql_ptree.proofs.Rising.{all_back}

pub above_at : (o : Ordering) (k m x : Plain) → order k m ≡ o → is_behind true o ≡ true → order x m ≡ Less → order k x ≡ Greater
above_at Less k m x is h low = absurd (cc)
above_at Equal k m x is h low = order_total.congr k m x is ∙ below_flip order order_total m x low
above_at Greater k m x is h low = below_flip order order_total k x (order_total.trans x m k low (above_flip order order_total m k is))

pub not_behind : (o : Ordering) → is_behind true o ≡ false → o ≡ Less
not_behind Less h = refl
not_behind Equal h = cc
not_behind Greater h = cc

-- the keys before one that k reaches are below k
pub reached_all : (k : Plain) (a b : List (Plain × Plain)) → AreRising (a ++ b) → 0 < length b → Opens (λ x. is_behind true (order k x) ≡ true) b → AllBelow k a
unfolding IsStrictlySortedBy
reached_all k [] b up some h = tt
reached_all k (m ∷ ms) [] up some h = absurd (omega arith)
reached_all k (m ∷ ms) (n ∷ ns) up some h =
    let first : order m.0 n.0 ≡ Less = (all_back (λ y. order m.0 y ≡ Less) ms (n ∷ ns) up.0).0 in
    (above_at (order k n.0) k n.0 m.0 refl h first, reached_all k ms (n ∷ ns) up.1 some h)

module _ (k : Plain) where
  pub find_past : (a b : List (Plain × Plain)) → AllBelow k a → find k (a ++ b) ≡ find k b
  find_past [] b all = refl
  find_past (m ∷ ms) b all = rw (all.0) (find_past ms b all.1)

  pub put_past : (v : Plain) (a b : List (Plain × Plain)) → AllBelow k a → put k v (a ++ b) ≡ a ++ put k v b
  put_past v [] b all = refl
  put_past v (m ∷ ms) b all = rw (all.0) (ap (λ t. m ∷ t) (put_past v ms b all.1))

  pub without_past : (a b : List (Plain × Plain)) → AllBelow k a → without k (a ++ b) ≡ a ++ without k b
  without_past [] b all = refl
  without_past (m ∷ ms) b all = rw (all.0) (ap (λ t. m ∷ t) (without_past ms b all.1))

  find_none : (b : List (Plain × Plain)) → AreRising b → Opens (λ x. order k x ≡ Less) b → find k b ≡ None
  find_none [] up h = refl
  find_none (n ∷ ns) up h = find_gap order order_total (n ∷ ns) k 0 up h

  pub find_front : (a b : List (Plain × Plain)) → AreRising b → Opens (λ x. order k x ≡ Less) b → find k (a ++ b) ≡ find k a
  find_front [] b up h = find_none b up h
  find_front (m ∷ ms) b up h = ap (cond (is_eq (order k m.0)) (Some m.1)) (find_front ms b up h)

  put_front_at : (o : Ordering) (v : Plain) (m : Plain × Plain) (ms b rest : List (Plain × Plain)) → rest ≡ put k v ms ++ b
      → match_ordering o ((k, v) ∷ m ∷ (ms ++ b)) ((m.0, v) ∷ (ms ++ b)) (m ∷ rest) ≡ match_ordering o ((k, v) ∷ m ∷ ms) ((m.0, v) ∷ ms) (m ∷ put k v ms) ++ b
  put_front_at Less v m ms b rest e = refl
  put_front_at Equal v m ms b rest e = refl
  put_front_at Greater v m ms b rest e = ap (λ t. m ∷ t) e

  pub put_front : (v : Plain) (a b : List (Plain × Plain)) → Opens (λ x. order k x ≡ Less) b → put k v (a ++ b) ≡ put k v a ++ b
  put_front v [] [] h = refl
  put_front v [] (n ∷ ns) h = rw h refl
  put_front v (m ∷ ms) b h = put_front_at (order k m.0) v m ms b (put k v (ms ++ b)) (put_front v ms b h)

  without_front_at : (e : Bool) (m : Plain × Plain) (ms b rest : List (Plain × Plain)) → rest ≡ without k ms ++ b → cond e (ms ++ b) (m ∷ rest) ≡ cond e ms (m ∷ without k ms) ++ b
  without_front_at true m ms b rest e = refl
  without_front_at false m ms b rest e = ap (λ t. m ∷ t) e

  pub without_front : (a b : List (Plain × Plain)) → AreRising b → Opens (λ x. order k x ≡ Less) b → without k (a ++ b) ≡ without k a ++ b
  without_front [] b up h = without_gap order order_total b k (find_none b up h)
  without_front (m ∷ ms) b up h = without_front_at (is_eq (order k m.0)) m ms b (without k (ms ++ b)) (without_front ms b up h)
