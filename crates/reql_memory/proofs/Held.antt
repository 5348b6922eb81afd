-- A list that holds a map: each of its entries stands for a key and a value, and the keys rise.
use Rattle.std.proofs.Common.{◌≡◌, ℕ, zero, suc, ◌<◌, ◌-◌, List, [], ◌∷◌, ◌++◌, length, get_or, set, map, Some, Result, IfOk, IfErr, slice_get, Ordering, Less, Equal, Greater, true, refl, sym, ap, ◌∙◌}
use Rattle.std.specs.List.{insert, remove}
use Rattle.std.specs.List.Sorted.{IsSearchInRange, IsBinarySearchResult}
use Rattle.std.specs.Map.{keys_of}
use Rattle.std.specs.Cmp.{IsTotalOrder}
use Rattle.std.specs.Ordering.{is_lt}
use Rattle.std.proofs.lemmas.List.{get_or-map, map-set}
use Rattle.reql_memory.specs.Sorted.{AreRisingBy, find_by, put_by, without_by, IsHitBy, IsGapBy}
use Rattle.reql_memory.proofs.Sorted.{searched, find_hit, set_hit, insert_gap, remove_hit}
use Rattle.reql_memory.proofs.Sorted as sorted

pub is_less : (o : Ordering) → true ≡ is_lt o → o ≡ Less
is_less Less h = refl
is_less Equal h = cc
is_less Greater h = cc

module _ {X Y : Type 0} (f : X → Y) where
  pub map-insert : (xs : List X) (i : ℕ) (x : X) → map f (insert xs i x) ≡ insert (map f xs) i (f x)
  map-insert [] zero x = refl
  map-insert [] (suc i) x = refl
  map-insert (y ∷ ys) zero x = refl
  map-insert (y ∷ ys) (suc i) x = ap (λ t. f y ∷ t) (map-insert ys i x)

  map-remove : (xs : List X) (i : ℕ) → map f (remove xs i) ≡ remove (map f xs) i
  map-remove [] zero = refl
  map-remove [] (suc i) = refl
  map-remove (y ∷ ys) zero = refl
  map-remove (y ∷ ys) (suc i) = ap (λ t. f y ∷ t) (map-remove ys i)

-- what an entry stands for is its pair
module _ {K : Type 0} (cmp : K → K → Ordering) (total : IsTotalOrder cmp) {R V : Type 0} (pair : R → K × V) where
  keys_seen : (rs : List R) → map (λ r. (pair r).0) rs ≡ keys_of (map pair rs)
  keys_seen [] = refl
  keys_seen (r ∷ rs) = ap (λ t. (pair r).0 ∷ t) (keys_seen rs)

  -- what a search finds
  pub place_found : (rs : List R) (k : K) (r : Result ℕ ℕ) → AreRisingBy cmp (map pair rs) → IsSearchInRange r (length rs) → IsBinarySearchResult (λ x. cmp (pair x).0 k) rs r
      → record { found : IfOk r (IsHitBy cmp (keys_of (map pair rs)) k); absent : IfErr r (IsGapBy cmp (keys_of (map pair rs)) k) }
  place_found rs k r up lt by =
      rw (← keys_seen rs) (searched cmp total (λ x. (pair x).0) k rs (rw (keys_seen rs) up) r lt by)

  -- a key above the last one would stand at the end
  pub gap_last : (rs : List R) (k : K) (x : R) → AreRisingBy cmp (map pair rs) → Some x ≡ slice_get rs (length rs - 1) → cmp (pair x).0 k ≡ Less → IsGapBy cmp (keys_of (map pair rs)) k (length rs)
  gap_last rs k x up is h = rw (← keys_seen rs) (sorted.gap_last cmp total (λ y. (pair y).0) k rs x (rw (keys_seen rs) up) is h)

  at_hit : (rs : List R) (i : ℕ) (x : R) → i < length rs → x ≡ get_or rs i x → get_or (map pair rs) i (pair x) ≡ pair x
  at_hit rs i x lt here = get_or-map pair rs i x (pair x) lt ∙ ap pair (sym here)

  pub value_at : (rs : List R) (k : K) (i : ℕ) (x : R) → IsHitBy cmp (keys_of (map pair rs)) k i → i < length rs → x ≡ get_or rs i x → Some (pair x).1 ≡ find_by cmp k (map pair rs)
  value_at rs k i x hit lt here = sym (find_hit cmp total (map pair rs) k i (pair x) hit ∙ ap (λ (m : K × V). Some m.1) (at_hit rs i x lt here))

  -- what stands after a value is written over, an entry comes in, or one goes
  pub held_set : (rs : List R) (k : K) (i : ℕ) (x y : R) → IsHitBy cmp (keys_of (map pair rs)) k i → i < length rs → x ≡ get_or rs i x → (pair y).0 ≡ (pair x).0
      → map pair (set rs i y) ≡ put_by cmp k (pair y).1 (map pair rs)
  held_set rs k i x y hit lt here same =
      let name : (get_or (map pair rs) i (pair x)).0 ≡ (pair y).0 = ap (λ (m : K × V). m.0) (at_hit rs i x lt here) ∙ sym same in
      let e : set (map pair rs) i ((pair y).0, (pair y).1) ≡ put_by cmp k (pair y).1 (map pair rs) = rw name at (set_hit cmp total (map pair rs) k (pair y).1 i (pair x) hit) in
      map-set pair rs i y ∙ e

  pub held_insert : (rs : List R) (i : ℕ) (y : R) → IsGapBy cmp (keys_of (map pair rs)) (pair y).0 i → map pair (insert rs i y) ≡ put_by cmp (pair y).0 (pair y).1 (map pair rs)
  held_insert rs i y gap = map-insert pair rs i y ∙ insert_gap cmp total (map pair rs) (pair y).0 (pair y).1 i gap

  -- an entry that stands for k and v
  pub held_insert_as : (rs : List R) (i : ℕ) (y : R) (k : K) (v : V) → pair y ≡ (k, v) → IsGapBy cmp (keys_of (map pair rs)) k i → map pair (insert rs i y) ≡ put_by cmp k v (map pair rs)
  held_insert_as rs i y k v is gap = map-insert pair rs i y ∙ ap (insert (map pair rs) i) is ∙ insert_gap cmp total (map pair rs) k v i gap

  insert_end : (rs : List R) (y : R) → insert rs (length rs) y ≡ rs ++ y ∷ []
  insert_end [] y = refl
  insert_end (r ∷ rs) y = ap (λ t. r ∷ t) (insert_end rs y)

  -- an entry after all others
  pub held_last : (rs : List R) (y : R) (k : K) (v : V) → pair y ≡ (k, v) → IsGapBy cmp (keys_of (map pair rs)) k (length rs) → map pair (rs ++ y ∷ []) ≡ put_by cmp k v (map pair rs)
  held_last rs y k v is gap = ap (map pair) (sym (insert_end rs y)) ∙ held_insert_as rs (length rs) y k v is gap

  pub held_remove : (rs : List R) (k : K) (i : ℕ) → IsHitBy cmp (keys_of (map pair rs)) k i → map pair (remove rs i) ≡ without_by cmp k (map pair rs)
  held_remove rs k i hit = map-remove pair rs i ∙ remove_hit cmp total (map pair rs) k i hit
