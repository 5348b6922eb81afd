-- What is found after an edit of a map by rising keys.
use Rattle.std.proofs.Common.{◌≡◌, List, [], ◌∷◌, Bool, true, false, cond, if◌then◌else◌, Some, None, Ordering, Less, Equal, Greater, is_eq, refl, ap, ◌∙◌}
use Rattle.std.specs.Ordering.{match_ordering}
use Rattle.std.specs.Map.{keys_of}
use Rattle.std.specs.Cmp.{IsTotalOrder, eq_by_cmp_equiv}
use Rattle.std.proofs.lemmas.Cmp.{alike_right}
use Rattle.std.proofs.lemmas.Map.{lookup-remove_entry}
use Rattle.std.proofs.lemmas.Map.Keys.{IsDistinct-from_sorted}
use Rattle.reql_memory.specs.Sorted.{AreRisingBy, find_by, put_by, without_by}

pub is_equal : (o : Ordering) → is_eq o ≡ true → o ≡ Equal
is_equal Less h = cc
is_equal Equal h = refl
is_equal Greater h = cc

twice : {A : Type 0} (b : Bool) (x y z : A) → cond b x z ≡ cond b x (cond b y z)
twice true x y z = refl
twice false x y z = refl

swapped : {A : Type 0} (a b : Bool) (x y z : A) → (a ≡ true → b ≡ true → ⊥) → cond b y (cond a x z) ≡ cond a x (cond b y z)
swapped true true x y z h = absurd (h refl refl)
swapped true false x y z h = refl
swapped false b x y z h = refl

module _ {K : Type 0} (cmp : K → K → Ordering) (total : IsTotalOrder cmp) where
  apart : (q k l : K) → cmp k l ≡ Greater → is_eq (cmp q k) ≡ true → is_eq (cmp q l) ≡ true → ⊥
  apart q k l above here there =
      let e : cmp q l ≡ cmp k l = total.congr q k l (is_equal _ here) in
      let f : cmp q l ≡ Equal = is_equal _ there in
      cc

  same_test : (k x y : K) → cmp k x ≡ Equal → is_eq (cmp k y) ≡ is_eq (cmp x y)
  same_test k x y is = rw (total.congr k x y is) refl

  module _ {V : Type 0} where
    put_at : (o : Ordering) (m : K × V) (ms : List (K × V)) (k : K) (v : V) (q : K) → cmp k m.0 ≡ o → find_by cmp q (put_by cmp k v ms) ≡ (if is_eq (cmp q k) then Some v else find_by cmp q ms)
        → find_by cmp q (match_ordering o ((k, v) ∷ m ∷ ms) ((m.0, v) ∷ ms) (m ∷ put_by cmp k v ms)) ≡ (if is_eq (cmp q k) then Some v else find_by cmp q (m ∷ ms))
    put_at Less m ms k v q is later = refl
    put_at Equal m ms k v q is later = rw (alike_right total k m.0 q is) (twice (is_eq (cmp q m.0)) (Some v) (Some m.1) (find_by cmp q ms))
    put_at Greater m ms k v q is later = ap (cond (is_eq (cmp q m.0)) (Some m.1)) later ∙ swapped (is_eq (cmp q k)) (is_eq (cmp q m.0)) (Some v) (Some m.1) (find_by cmp q ms) (apart q k m.0 is)

    -- what was put at k is found there, and the other keys keep their values
    pub find_put : (ms : List (K × V)) (k : K) (v : V) (q : K) → find_by cmp q (put_by cmp k v ms) ≡ (if is_eq (cmp q k) then Some v else find_by cmp q ms)
    find_put [] k v q = refl
    find_put (m ∷ ms) k v q = put_at (cmp k m.0) m ms k v q refl (find_put ms k v q)

    -- nothing is found at k, and the other keys keep their values
    pub find_without : (ms : List (K × V)) (k q : K) → AreRisingBy cmp ms → find_by cmp q (without_by cmp k ms) ≡ (if is_eq (cmp k q) then None else find_by cmp q ms)
    find_without ms k q up = lookup-remove_entry (eq_by_cmp_equiv total) (λ l. is_eq (cmp k l)) (λ x y here. same_test k x y (is_equal _ here)) q ms (IsDistinct-from_sorted cmp (keys_of ms) up)
