-- The neighbours of a key.
use Rattle.std.proofs.Common.{◌≡◌, ℕ, zero, suc, ◌+◌, ◌-◌, ◌<◌, List, [], ◌∷◌, slice_get, Bool, true, false, Option, Some, None, Ordering, Less, Equal, Greater, refl, sym, ap, ◌∙◌, arith, add-one}
use Rattle.std.specs.List.{AllByRecursion, find}
use Rattle.std.specs.List.Sorted.{IsStrictlySortedBy}
use Rattle.std.specs.Option.{option_or}
use Rattle.std.specs.Map.{keys_of}
use mathlib.Core.List.{reverse}
use Rattle.std.proofs.lemmas.List.{reverse-append}
use Rattle.std.proofs.lemmas.List.Folds.{find-append}
use Rattle.reql_datum.specs.Plain.{Plain}
use Rattle.reql_datum.specs.Order.{order}
use Rattle.reql_memory.specs.Sorted.{IsHitBy, IsGapBy}
use Rattle.reql_datum.specs.Total.{order_total}
use Rattle.reql_ptree.specs.Pairs.{AreRising, Opens}
use Rattle.reql_ptree.specs.Next.{is_behind, behind, next_of, IsCut}

module _ (k : Plain) (at : Bool) where
  -- no key is behind k
  abbrev pub NoneBehind : List (Plain × Plain) → Type 0
  NoneBehind ms = AllByRecursion (λ m. behind k at m ≡ false) ms

  above_not : (o : Ordering) → o ≡ Less → is_behind at o ≡ false
  above_not Less h = refl
  above_not Equal h = cc
  above_not Greater h = cc

  below_is : (o : Ordering) → o ≡ Greater → is_behind at o ≡ true
  below_is Less h = cc
  below_is Equal h = cc
  below_is Greater h = refl

  -- the keys after one that k is below
  later_not : (l : Plain) (ms : List (Plain × Plain)) → order k l ≡ Less → AllByRecursion (λ y. order l y ≡ Less) (keys_of ms) → NoneBehind ms
  later_not l [] h all = tt
  later_not l (m ∷ ms) h all = (above_not (order k m.0) (order_total.trans k l m.0 h all.0), later_not l ms h all.1)

  later_at : (l : Plain) (ms : List (Plain × Plain)) → order k l ≡ Equal → AllByRecursion (λ y. order l y ≡ Less) (keys_of ms) → NoneBehind ms
  later_at l [] h all = tt
  later_at l (m ∷ ms) h all = (above_not (order k m.0) (order_total.congr k l m.0 h ∙ all.0), later_at l ms h all.1)

  pub behind_each : (ms : List (Plain × Plain)) → AllByRecursion (λ x. order k x ≡ Greater) (keys_of ms) → AllByRecursion (λ m. behind k at m ≡ true) ms
  behind_each [] all = tt
  behind_each (m ∷ ms) all = (below_is (order k m.0) all.0, behind_each ms all.1)

  true_at : (o : Ordering) → is_behind at o ≡ true → is_behind true o ≡ true
  true_at Less h = absurd (cc)
  true_at Equal h = refl
  true_at Greater h = refl

  pub opens_true : (ms : List (Plain × Plain)) → Opens (λ x. is_behind at (order k x) ≡ true) ms → Opens (λ x. is_behind true (order k x) ≡ true) ms
  opens_true [] h = tt
  opens_true (m ∷ ms) h = true_at (order k m.0) h

  none_first : (o : Ordering) (m : Plain × Plain) (ms : List (Plain × Plain)) → order k m.0 ≡ o → is_behind at o ≡ false → AllByRecursion (λ y. order m.0 y ≡ Less) (keys_of ms) → NoneBehind ms
  none_first Less m ms is h all = later_not m.0 ms is all
  none_first Equal m ms is h all = later_at m.0 ms is all
  none_first Greater m ms is h all = absurd (cc)

  pub none_rising : (ms : List (Plain × Plain)) → AreRising ms → Opens (λ x. is_behind at (order k x) ≡ false) ms → NoneBehind ms
  unfolding IsStrictlySortedBy
  none_rising [] up h = tt
  none_rising (m ∷ ms) up h = (h, none_first (order k m.0) m ms refl h up.0)

  pub cut_gap : (ms : List (Plain × Plain)) (i : ℕ) → AreRising ms → IsGapBy order (keys_of ms) k i → IsCut k at ms i
  unfolding IsStrictlySortedBy
  cut_gap [] zero up h = tt
  cut_gap [] (suc i) up h = absurd h
  cut_gap (m ∷ ms) zero up h = (above_not (order k m.0) h, later_not m.0 ms h up.0)
  cut_gap (m ∷ ms) (suc i) up h = (below_is (order k m.0) h.0, cut_gap ms i up.1 h.1)

pub cut_hit : (k : Plain) (ms : List (Plain × Plain)) (i : ℕ) → AreRising ms → IsHitBy order (keys_of ms) k i → IsCut k false ms i
unfolding IsStrictlySortedBy
cut_hit k [] i up h = absurd h
cut_hit k (m ∷ ms) zero up h = (rw h refl, later_at k false m.0 ms h up.0)
cut_hit k (m ∷ ms) (suc i) up h = (below_is k false (order k m.0) h.0, cut_hit k ms i up.1 h.1)

cut_hit_past : (k : Plain) (ms : List (Plain × Plain)) (i : ℕ) → AreRising ms → IsHitBy order (keys_of ms) k i → IsCut k true ms (suc i)
unfolding IsStrictlySortedBy
cut_hit_past k [] i up h = absurd h
cut_hit_past k (m ∷ ms) zero up h = (rw h refl, later_at k true m.0 ms h up.0)
cut_hit_past k (m ∷ ms) (suc i) up h = (below_is k true (order k m.0) h.0, cut_hit_past k ms i up.1 h.1)

pub cut_hit_next : (k : Plain) (at : Bool) (ms : List (Plain × Plain)) (i : ℕ) → at ≡ true → AreRising ms → IsHitBy order (keys_of ms) k i → IsCut k at ms (i + 1)
cut_hit_next k at ms i is up h = rw (is, add-one) (cut_hit_past k ms i up h)

pub cut_hit_here : (k : Plain) (at : Bool) (ms : List (Plain × Plain)) (i : ℕ) → at ≡ false → AreRising ms → IsHitBy order (keys_of ms) k i → IsCut k at ms i
cut_hit_here k at ms i is up h = rw is (cut_hit k ms i up h)

module _ (k : Plain) (at : Bool) where
  -- the first pair that isn't behind
  pub next_cut : (ms : List (Plain × Plain)) (i : ℕ) → IsCut k at ms i → next_of k at ms ≡ slice_get ms i
  next_cut [] zero h = refl
  next_cut [] (suc i) h = absurd h
  next_cut (m ∷ ms) zero h = rw (h.0) refl
  next_cut (m ∷ ms) (suc i) h = rw (h.0) (next_cut ms i h.1)

  -- from the end
  pub last_cons : (m : Plain × Plain) (ms : List (Plain × Plain)) → find (behind k at) (reverse (m ∷ ms)) ≡ option_or (find (behind k at) (reverse ms)) (find (behind k at) (m ∷ []))
  last_cons m ms = ap (find (behind k at)) (reverse-append (m ∷ []) ms) ∙ find-append (behind k at) (reverse ms) (m ∷ [])

  pub last_none : (ms : List (Plain × Plain)) → NoneBehind k at ms → find (behind k at) (reverse ms) ≡ None
  last_none [] all = refl
  last_none (m ∷ ms) all = last_cons m ms ∙ rw (last_none ms all.1, all.0) refl

  kept_last : (found here : Option (Plain × Plain)) (p : Plain × Plain) → found ≡ Some p → option_or found here ≡ Some p
  kept_last found here p is = rw is refl

  last_at : (ms : List (Plain × Plain)) (i : ℕ) → IsCut k at ms (suc i) → (p : Plain × Plain) × (find (behind k at) (reverse ms) ≡ Some p) × (slice_get ms i ≡ Some p)
  last_at [] i h = absurd h
  last_at (m ∷ ms) zero h = (m, last_cons m ms ∙ rw (last_none ms h.1, h.0) refl, refl)
  last_at (m ∷ ms) (suc i) h =
      let rest = last_at ms i h.1 in
      (rest.0, last_cons m ms ∙ kept_last (find (behind k at) (reverse ms)) (find (behind k at) (m ∷ [])) rest.0 rest.1, rest.2)

  -- the last pair that is behind
  pub prev_cut : (ms : List (Plain × Plain)) (i : ℕ) → 0 < i → IsCut k at ms i → find (behind k at) (reverse ms) ≡ slice_get ms (i - 1)
  prev_cut ms zero some h = absurd (omega arith)
  prev_cut ms (suc i) some h =
      let at_place = last_at ms i h in
      let e : suc i - 1 ≡ i = omega arith in
      rw e (at_place.1 ∙ sym at_place.2)
