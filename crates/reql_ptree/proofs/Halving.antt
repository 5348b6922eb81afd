-- What a search by halving knows of keys that rise.
use Rattle.std.proofs.Common.{◌≡◌, ℕ, zero, suc, ◌+◌, ◌<◌, ◌≤◌, List, [], ◌∷◌, length, get_or, map, Less, Equal, Greater, ◌∙◌, ap, arith, inl, inr}
use Rattle.std.specs.List.{AllByRecursion}
use Rattle.std.specs.List.Sorted.{IsStrictlySortedBy}
use Rattle.std.specs.Map.{keys_of}
use Rattle.std.proofs.lemmas.Bool.{cases_order}
use Rattle.std.proofs.lemmas.List.{get_or-map, length-map}
use Rattle.reql_datum.specs.Plain.{Plain}
use Rattle.reql_datum.specs.Order.{order}
use Rattle.reql_memory.specs.Sorted.{IsHitBy, IsGapBy}
use Rattle.reql_datum.specs.Total.{order_total}
use Rattle.reql_datum.specs.View.{plain}
use Rattle.reql_memory.proofs.Sorted.{above_flip, below_flip, hit_from, gap_from}
use Rattle.reql_ptree.specs.Pairs.{AreRising}
use Rattle.reql_ptree.specs.Chunk.{pair}
use Rattle.reql_ptree.specs.declared.chunk.Pair.{Pair}

pub all_at : (P : Plain → Type 0) (ks : List Plain) (j : ℕ) (d : Plain) → AllByRecursion P ks → j < length ks → P (get_or ks j d)
all_at P [] j d all lt = absurd (omega arith)
all_at P (k ∷ ks) zero d all lt = all.0
all_at P (k ∷ ks) (suc j) d all lt = all_at P ks j d all.1 (omega arith)

-- a later key is above an earlier one
rising_at : (ks : List Plain) (i j : ℕ) (d e : Plain) → IsStrictlySortedBy order ks → i < j → j < length ks → order (get_or ks i d) (get_or ks j e) ≡ Less
unfolding IsStrictlySortedBy
rising_at [] i j d e up lt within = absurd (omega arith)
rising_at (k ∷ ks) i zero d e up lt within = absurd (omega arith)
rising_at (k ∷ ks) zero (suc j) d e up lt within = all_at (λ y. order k y ≡ Less) ks j e up.0 (omega arith)
rising_at (k ∷ ks) (suc i) (suc j) d e up lt within = rising_at ks i j d e up.1 (omega arith) (omega arith)

length_keys : (rs : List Pair) → length (keys_of (map pair rs)) ≡ length rs
length_keys rs = length-map _ _ ∙ length-map _ _

-- the key at a place
pub key_at : (rs : List Pair) (m : ℕ) (x : Pair) (d : Plain) → m < length rs → get_or (keys_of (map pair rs)) m d ≡ plain (get_or rs m x).key
key_at rs m x d lt = get_or-map _ (map pair rs) m (pair x) d (omega (arith, length-map rs pair)) ∙ ap (λ (p : Plain × Plain). p.0) (get_or-map pair rs m x (pair x) lt)

module _ (rs : List Pair) (k : Plain) (m : ℕ) (x : Pair) (up : AreRising (map pair rs)) (lt : m < length rs) where
  -- below a key that is below k all are
  pub below_to : order (plain (get_or rs m x).key) k ≡ Less → (j : ℕ) (d : Plain) → j < m + 1 → order (get_or (keys_of (map pair rs)) j d) k ≡ Less
  below_to h j d lower =
      let here = key_at rs m x d lt in
      elim (cases_order j m) [
        | inl same ↦ rw (same, here) h
        | inr (inl less) ↦ order_total.trans _ (plain (get_or rs m x).key) k (rw here at (rising_at (keys_of (map pair rs)) j m d d up less (omega (arith, length_keys rs)))) h
        | inr (inr more) ↦ absurd (omega arith)
      ]

  -- and above one that is above k
  pub above_from : order (plain (get_or rs m x).key) k ≡ Greater → (j : ℕ) (d : Plain) → m ≤ j → j < length rs → order (get_or (keys_of (map pair rs)) j d) k ≡ Greater
  above_from h j d higher within =
      let here = key_at rs m x d lt in
      elim (cases_order j m) [
        | inl same ↦ rw (same, here) h
        | inr (inl less) ↦ absurd (omega arith)
        | inr (inr more) ↦ below_flip order order_total _ k (order_total.trans k (plain (get_or rs m x).key) _ (above_flip order order_total k (plain (get_or rs m x).key) h) (rw here at (rising_at (keys_of (map pair rs)) m j d d up more (omega (arith, length_keys rs)))))
      ]

  pub hit_at : order (plain (get_or rs m x).key) k ≡ Equal → IsHitBy order (keys_of (map pair rs)) k m
  hit_at h = hit_from order order_total (keys_of (map pair rs)) k m up (omega (arith, length_keys rs)) (λ d. rw (key_at rs m x d lt) h)

pub gap_at : (rs : List Pair) (k : Plain) (m : ℕ) → m ≤ length rs → ((j : ℕ) (d : Plain) → j < m → order (get_or (keys_of (map pair rs)) j d) k ≡ Less)
    → ((j : ℕ) (d : Plain) → m ≤ j → j < length rs → order (get_or (keys_of (map pair rs)) j d) k ≡ Greater) → IsGapBy order (keys_of (map pair rs)) k m
gap_at rs k m lt below above = gap_from order order_total (keys_of (map pair rs)) k m (omega (arith, length_keys rs)) below (λ j d h g. above j d h (omega (arith, length_keys rs)))
