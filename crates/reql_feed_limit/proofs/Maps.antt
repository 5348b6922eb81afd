-- Maps as lists by rising keys, told by what is found at each key; the order is any one in which only equal keys tie.
use Rattle.std.proofs.Common.{◌≡◌, List, [], ◌∷◌, Bool, true, false, cond, if◌then◌else◌, Option, Some, None, Ordering, Less, Equal, Greater, is_eq, refl, sym, ap, ◌∙◌}
use Rattle.std.specs.Map.{keys_of}
use Rattle.std.specs.Ordering.{match_ordering}
use Rattle.std.specs.Cmp.{IsTotalOrder, eq_by_cmp_equiv}
use Rattle.std.proofs.lemmas.Cmp.{tied_itself}
use Rattle.std.proofs.lemmas.Map.{lookup-remove_entry}
use Rattle.std.proofs.lemmas.Map.Keys.{IsDistinct-from_sorted}
use Rattle.reql_memory.specs.Sorted.{AreRisingBy, find_by, put_by, without_by}
use Rattle.reql_memory.proofs.Sorted.{find_gap, above_flip, rising_put, rising_without, rising_rest, not_later}
use Rattle.reql_feed_limit.specs.Selection.{set_by}

pub is_equal : (o : Ordering) → is_eq o ≡ true → o ≡ Equal
is_equal Less h = cc
is_equal Equal h = refl
is_equal Greater h = cc

-- a total order in which only equal keys tie
pub record Strict {K : Type 0} (cmp : K → K → Ordering) : Type 0 where
  pub total : IsTotalOrder cmp
  pub one : (a b : K) → cmp a b ≡ Equal → a ≡ b

module _ {K : Type 0} (cmp : K → K → Ordering) (strict : Strict cmp) where
  twice : {A : Type 0} (b : Bool) (x y z : A) → cond b x z ≡ cond b x (cond b y z)
  twice true x y z = refl
  twice false x y z = refl

  swapped : {A : Type 0} (a b : Bool) (x y z : A) → (a ≡ true → b ≡ true → ⊥) → cond b y (cond a x z) ≡ cond a x (cond b y z)
  swapped true true x y z h = absurd (h refl refl)
  swapped true false x y z h = refl
  swapped false b x y z h = refl

  pub same_key : (a b : K) → is_eq (cmp a b) ≡ true → a ≡ b
  same_key a b h = strict.one a b (is_equal (cmp a b) h)

  pub itself : (a : K) → cmp a a ≡ Equal
  itself a = tied_itself strict.total a

  apart : (q k l : K) → cmp k l ≡ Greater → is_eq (cmp q k) ≡ true → is_eq (cmp q l) ≡ true → ⊥
  apart q k l above here there =
      let e : q ≡ k = same_key q k here in
      let f : q ≡ l = same_key q l there in
      let tie : cmp k l ≡ Equal = rw (sym e ∙ f) (itself l) in
      cc

  tied : (k x y : K) → is_eq (cmp k x) ≡ true → is_eq (cmp k y) ≡ is_eq (cmp x y)
  tied k x y is = rw (same_key k x is) refl

  pub eq_flip : (a b : K) → is_eq (cmp a b) ≡ is_eq (cmp b a)
  eq_flip a b = (eq_by_cmp_equiv strict.total).symm a b

  module _ {V : Type 0} where
    put_at : (o : Ordering) (m : K × V) (ms : List (K × V)) (k : K) (v : V) (q : K) → cmp k m.0 ≡ o → find_by cmp q (put_by cmp k v ms) ≡ (if is_eq (cmp q k) then Some v else find_by cmp q ms)
        → find_by cmp q (match_ordering o ((k, v) ∷ m ∷ ms) ((m.0, v) ∷ ms) (m ∷ put_by cmp k v ms)) ≡ (if is_eq (cmp q k) then Some v else find_by cmp q (m ∷ ms))
    put_at Less m ms k v q is later = refl
    put_at Equal m ms k v q is later = let e : k ≡ m.0 = strict.one k m.0 is in rw e (twice (is_eq (cmp q m.0)) (Some v) (Some m.1) (find_by cmp q ms))
    put_at Greater m ms k v q is later = ap (cond (is_eq (cmp q m.0)) (Some m.1)) later ∙ swapped (is_eq (cmp q k)) (is_eq (cmp q m.0)) (Some v) (Some m.1) (find_by cmp q ms) (apart q k m.0 is)

    -- what is found at q after an edit at k
    pub find_put : (ms : List (K × V)) (k : K) (v : V) (q : K) → find_by cmp q (put_by cmp k v ms) ≡ (if is_eq (cmp q k) then Some v else find_by cmp q ms)
    find_put [] k v q = refl
    find_put (m ∷ ms) k v q = put_at (cmp k m.0) m ms k v q refl (find_put ms k v q)

    pub find_without : (ms : List (K × V)) (k q : K) → AreRisingBy cmp ms → find_by cmp q (without_by cmp k ms) ≡ (if is_eq (cmp q k) then None else find_by cmp q ms)
    find_without ms k q up =
        rw (eq_flip q k) (lookup-remove_entry (eq_by_cmp_equiv strict.total) (λ l. is_eq (cmp k l)) (λ x y here. tied k x y here) q ms (IsDistinct-from_sorted cmp (keys_of ms) up))

    pub find_set : (ms : List (K × V)) (k : K) (v : Option V) (q : K) → AreRisingBy cmp ms → find_by cmp q (set_by cmp k v ms) ≡ (if is_eq (cmp q k) then v else find_by cmp q ms)
    find_set ms k None q up = find_without ms k q up
    find_set ms k (Some v) q up = find_put ms k v q

    pub rising_set : (ms : List (K × V)) (k : K) (v : Option V) → AreRisingBy cmp ms → AreRisingBy cmp (set_by cmp k v ms)
    rising_set ms k None up = rising_without cmp strict.total k ms up
    rising_set ms k (Some v) up = rising_put cmp strict.total k v ms up

    -- the first key is found, and one below it isn't
    pub find_first : (m : K × V) (ms : List (K × V)) → find_by cmp m.0 (m ∷ ms) ≡ Some m.1
    find_first m ms = rw (itself m.0) refl

    pub find_head : (k : K) (m : K × V) (ms : List (K × V)) → k ≡ m.0 → find_by cmp k (m ∷ ms) ≡ Some m.1
    find_head k m ms e = rw (e, itself m.0) refl

    pub find_low : (k : K) (m : K × V) (ms : List (K × V)) → AreRisingBy cmp (m ∷ ms) → cmp k m.0 ≡ Less → find_by cmp k (m ∷ ms) ≡ None
    find_low k m ms up h = find_gap cmp strict.total (m ∷ ms) k 0 up h

    rest_at : (b : Bool) (x y : Option V) (p q : Option V) → (b ≡ true → x ≡ y) → cond b p x ≡ cond b q y → x ≡ y
    rest_at true x y p q on h = on refl
    rest_at false x y p q on h = h

    some_inside : (x y : V) → Some x ≡ Some y → x ≡ y
    some_inside x y is = cc

    alike_at : (o : Ordering) (m n : K × V) (ms ns : List (K × V)) → cmp m.0 n.0 ≡ o → AreRisingBy cmp (m ∷ ms) → AreRisingBy cmp (n ∷ ns) → ((q : K) → find_by cmp q (m ∷ ms) ≡ find_by cmp q (n ∷ ns))
        → (((q : K) → find_by cmp q ms ≡ find_by cmp q ns) → ms ≡ ns) → m ∷ ms ≡ n ∷ ns
    alike_at Less m n ms ns is up vp h on =
        let f : Some m.1 ≡ None = sym (find_first m ms) ∙ h m.0 ∙ find_low m.0 n ns vp is in cc
    alike_at Greater m n ms ns is up vp h on =
        let f : Some n.1 ≡ None = sym (find_first n ns) ∙ sym (h n.0) ∙ find_low n.0 m ms up (above_flip cmp strict.total n.0 m.0 is) in cc
    alike_at Equal m n ms ns is up vp h on =
        let e : m.0 ≡ n.0 = strict.one m.0 n.0 is in
        let v : m.1 ≡ n.1 = some_inside m.1 n.1 (sym (find_first m ms) ∙ h m.0 ∙ find_head m.0 n ns e) in
        let rest : (q : K) → find_by cmp q ms ≡ find_by cmp q ns =
        λ q. rest_at (is_eq (cmp q m.0)) (find_by cmp q ms) (find_by cmp q ns) (Some m.1) (Some n.1)
        (λ here. let g : q ≡ m.0 = same_key q m.0 here in rw g (not_later cmp strict.total m.0 m.1 ms up ∙ sym (rw e (not_later cmp strict.total n.0 n.1 ns vp))))
        (h q ∙ rw e refl) in
        ap (λ k. (k, m.1) ∷ ms) e ∙ ap (λ w. (n.0, w) ∷ ms) v ∙ ap (λ t. n ∷ t) (on rest)

    -- two maps in which the same is found at each key are one
    pub alike : (ms ns : List (K × V)) → AreRisingBy cmp ms → AreRisingBy cmp ns → ((q : K) → find_by cmp q ms ≡ find_by cmp q ns) → ms ≡ ns
    alike [] [] up vp h = refl
    alike [] (n ∷ ns) up vp h = let f : None ≡ Some n.1 = h n.0 ∙ find_first n ns in cc
    alike (m ∷ ms) [] up vp h = let f : None ≡ Some m.1 = sym (h m.0) ∙ find_first m ms in cc
    alike (m ∷ ms) (n ∷ ns) up vp h =
        alike_at (cmp m.0 n.0) m n ms ns refl up vp h (λ rest. alike ms ns (rising_rest cmp strict.total m ms up) (rising_rest cmp strict.total n ns vp) rest)
