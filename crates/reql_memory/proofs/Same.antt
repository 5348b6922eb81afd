-- Two maps by rising keys in which the same is found at each key are the same list.
use Rattle.std.proofs.Common.{◌≡◌, List, [], ◌∷◌, Bool, true, false, cond, Some, None, Ordering, Less, Equal, Greater, is_eq, refl, sym, subst, ◌∙◌}
use Rattle.std.specs.List.Sorted.{IsStrictlySortedBy}
use Rattle.std.specs.Cmp.{IsTotalOrder}
use Rattle.std.proofs.lemmas.Cmp.{tied_itself, tied_back}
use Rattle.reql_memory.specs.Sorted.{AreRisingBy, find_by, FindSameBy}
use Rattle.reql_memory.proofs.Sorted.{above_flip, find_gap, not_later}
use Rattle.reql_memory.proofs.Finds.{is_equal}

module _ {K : Type 0} (cmp : K → K → Ordering) (total : IsTotalOrder cmp) (exact : (k l : K) → cmp k l ≡ Equal → k ≡ l) {V : Type 0} where
  found_first : (m : K × V) (ms : List (K × V)) → find_by cmp m.0 (m ∷ ms) ≡ Some m.1
  found_first m ms = rw (tied_itself total m.0) refl

  -- a key that is there isn't below the other list's first
  not_below : (m n : K × V) (ms ns : List (K × V)) → AreRisingBy cmp (n ∷ ns) → cmp m.0 n.0 ≡ Less → FindSameBy cmp (m ∷ ms) (n ∷ ns) → ⊥
  not_below m n ms ns up below same =
      let there : find_by cmp m.0 (n ∷ ns) ≡ Some m.1 = sym (same m.0) ∙ found_first m ms in
      let none : find_by cmp m.0 (n ∷ ns) ≡ None = find_gap cmp total (n ∷ ns) m.0 0 up below in
      absurd (cc)

  rest_at : (b : Bool) (q : K) (v : V) (ms ns : List (K × V)) → (b ≡ true → find_by cmp q ms ≡ None) → (b ≡ true → find_by cmp q ns ≡ None)
      → cond b (Some v) (find_by cmp q ms) ≡ cond b (Some v) (find_by cmp q ns) → find_by cmp q ms ≡ find_by cmp q ns
  rest_at true q v ms ns left right is = left refl ∙ sym (right refl)
  rest_at false q v ms ns left right is = is

  -- a first key isn't found among those after it, nor is one that is equal to it
  gone : (q : K) (m : K × V) (ms : List (K × V)) → AreRisingBy cmp (m ∷ ms) → is_eq (cmp q m.0) ≡ true → find_by cmp q ms ≡ None
  gone q m ms up here = let e : q ≡ m.0 = exact q m.0 (is_equal (cmp q m.0) here) in rw e (not_later cmp total m.0 m.1 ms up)

  same_rest : (k : K) (v : V) (ms ns : List (K × V)) → AreRisingBy cmp ((k, v) ∷ ms) → AreRisingBy cmp ((k, v) ∷ ns) → FindSameBy cmp ((k, v) ∷ ms) ((k, v) ∷ ns) → FindSameBy cmp ms ns
  same_rest k v ms ns up on same = λ q. rest_at (is_eq (cmp q k)) q v ms ns (gone q (k, v) ms up) (gone q (k, v) ns on) (same q)

  some_inside : (x y : V) → Some x ≡ Some y → x ≡ y
  some_inside x y is = cc

  -- two first entries of one key
  same_first : (m n : K × V) (ms ns : List (K × V)) → cmp m.0 n.0 ≡ Equal → FindSameBy cmp (m ∷ ms) (n ∷ ns) → m ≡ n
  same_first m n ms ns is same =
      let key : m.0 ≡ n.0 = exact m.0 n.0 is in
      let here : find_by cmp n.0 (m ∷ ms) ≡ Some m.1 = rw (tied_back total m.0 n.0 is) refl in
      let value : m.1 ≡ n.1 = some_inside m.1 n.1 (sym here ∙ same n.0 ∙ found_first n ns) in
      λ i. (key i, value i)

  -- two lists whose rests are the same, if the same is found in those
  same_at : (o : Ordering) (m n : K × V) (ms ns : List (K × V)) → (AreRisingBy cmp ms → AreRisingBy cmp ns → FindSameBy cmp ms ns → ms ≡ ns)
      → cmp m.0 n.0 ≡ o → AreRisingBy cmp (m ∷ ms) → AreRisingBy cmp (n ∷ ns) → FindSameBy cmp (m ∷ ms) (n ∷ ns) → m ∷ ms ≡ n ∷ ns
  unfolding IsStrictlySortedBy
  same_at Less m n ms ns rests is up on same = absurd (not_below m n ms ns on is same)
  same_at Equal m n ms ns rests is up on same =
      let first : m ≡ n = same_first m n ms ns is same in
      let next = subst (λ x. AreRisingBy cmp (x ∷ ms) × FindSameBy cmp (x ∷ ms) (n ∷ ns)) first (up, same) in
      λ i. first i ∷ rests up.1 on.1 (same_rest n.0 n.1 ms ns next.0 on next.1) i
  same_at Greater m n ms ns rests is up on same = absurd (not_below n m ns ms up (above_flip cmp total n.0 m.0 is) (λ k. sym (same k)))

  pub same_found : (ms ns : List (K × V)) → AreRisingBy cmp ms → AreRisingBy cmp ns → FindSameBy cmp ms ns → ms ≡ ns
  same_found [] [] up on same = refl
  same_found [] (n ∷ ns) up on same = let e : None ≡ Some n.1 = same n.0 ∙ found_first n ns in absurd (cc)
  same_found (m ∷ ms) [] up on same = let e : Some m.1 ≡ None = sym (found_first m ms) ∙ same m.0 in absurd (cc)
  same_found (m ∷ ms) (n ∷ ns) up on same = same_at (cmp m.0 n.0) m n ms ns (same_found ms ns) refl up on same
