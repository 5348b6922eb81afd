-- The next pair of a tree past a place, and what is left past it.
use Rattle.std.proofs.Common.{◌≡◌, List, [], ◌∷◌, Bool, true, false, not, ◌&&◌, cond, Some, None, refl, sym, ap, ◌∙◌, subst, Ordering, Less, Equal, Greater}
use Rattle.std.proofs.lemmas.Cmp.{tied_itself}
use Rattle.std.specs.List.{AllByRecursion, filter}
use Rattle.std.specs.List.Sorted.{IsStrictlySortedBy}
use Rattle.std.specs.Map.{keys_of}
use Rattle.std.specs.Ordering.{ordering_reverse}
use Rattle.reql_datum.specs.Order.{order}
use Rattle.reql_datum.specs.Plain.{Plain}
use Rattle.reql_datum.specs.Total.{order_total}
use Rattle.reql_ptree.specs.Next.{is_behind, behind, next_of}
use Rattle.reql_ptree.specs.Pairs.{AreRising}
use Rattle.reql_ptree.specs.Range.{lies_within}

abbrev Pair : Type 0
Pair = Plain × Plain

-- ---- kept where no test differs
module _ {X : Type 0} (p q : X → Bool) where
  same_at : (a b : Bool) (x : X) (xs ys : List X) → a ≡ b → xs ≡ ys → cond a (x ∷ xs) xs ≡ cond b (x ∷ ys) ys
  same_at a b x xs ys e ih = λ i. cond (e i) (x ∷ ih i) (ih i)

  filter_same : (xs : List X) → AllByRecursion (λ x. p x ≡ q x) xs → filter p xs ≡ filter q xs
  filter_same [] h = refl
  filter_same (x ∷ xs) h = same_at (p x) (q x) x (filter p xs) (filter q xs) h.0 (filter_same xs h.1)

module _ {X : Type 0} (p : X → Bool) where
  none_at : (b : Bool) (x : X) (xs : List X) → b ≡ false → xs ≡ [] → cond b (x ∷ xs) xs ≡ []
  none_at true x xs h ih = cc
  none_at false x xs h ih = ih

  filter_none : (xs : List X) → AllByRecursion (λ x. p x ≡ false) xs → filter p xs ≡ []
  filter_none [] h = refl
  filter_none (x ∷ xs) h = none_at (p x) x (filter p xs) h.0 (filter_none xs h.1)

module _ (P : Plain → Type 0) (Q : Pair → Type 0) (on : (m : Pair) → P m.0 → Q m) where
  all_pairs : (ms : List Pair) → AllByRecursion P (keys_of ms) → AllByRecursion Q ms
  all_pairs [] h = tt
  all_pairs (m ∷ ms) h = (on m h.0, all_pairs ms h.1)

-- ---- keys further on
further_by : (o : Ordering) (h n x : Plain) (at : Bool) → o ≡ order h n → order n x ≡ Less → is_behind at o ≡ false → is_behind at (order h x) ≡ false
further_by Less h n x at e up is = ap (is_behind at) (order_total.trans h n x (sym e) up)
further_by Equal h n x true e up is = absurd (let f : true ≡ false = is in cc)
further_by Equal h n x false e up is = ap (is_behind false) (order_total.congr h n x (sym e) ∙ up)
further_by Greater h n x at e up is = absurd (let f : true ≡ false = is in cc)

further : (h : Plain) (at : Bool) (n : Plain) (m : Pair) → order n m.0 ≡ Less → is_behind at (order h n) ≡ false → behind h at m ≡ false
further h at n m up is = further_by (order h n) h n m.0 at refl up is

turned : (n x : Plain) → order n x ≡ Less → is_behind true (order x n) ≡ true
turned n x up = ap (is_behind true) (order_total.antisymm x n ∙ ap ordering_reverse up)

both_false : (a b : Bool) → b ≡ false → (a && b) ≡ false
both_false true b h = h
both_false false b h = refl

not_both : (a b : Bool) → a ≡ true → (not a && b) ≡ false
not_both true b h = refl
not_both false b h = cc

-- ---- what is left past a place
module _ (h : Plain) (ho : Bool) where
  abbrev left : Plain → Bool → Pair → Bool
  left k past = lies_within k past h ho

  none_step : (b : Bool) (k : Plain) (past : Bool) (m : Pair) (ms : List Pair) → b ≡ behind k past m → cond (not b) (Some m) (next_of k past ms) ≡ None
      → (next_of k past ms ≡ None → filter (left k past) ms ≡ []) → filter (left k past) (m ∷ ms) ≡ []
  none_step true k past m ms e is ih = none_at (left k past) (left k past m) m (filter (left k past) ms) (not_both (behind k past m) (behind h (not ho) m) (sym e)) (ih is)
  none_step false k past m ms e is ih = absurd (let f : Some m ≡ None = is in cc)

  none_left : (k : Plain) (past : Bool) (ms : List Pair) → next_of k past ms ≡ None → filter (left k past) ms ≡ []
  none_left k past [] is = refl
  none_left k past (m ∷ ms) is = none_step (behind k past m) k past m ms refl is (none_left k past ms)

  -- past the end there is nothing
  end_all : (k : Plain) (past : Bool) (m : Pair) (ms : List Pair) → AllByRecursion (λ x. order m.0 x ≡ Less) (keys_of ms) → behind h (not ho) m ≡ false → AllByRecursion (λ x. left k past x ≡ false) (m ∷ ms)
  end_all k past m ms up is = (
    both_false (not (behind k past m)) (behind h (not ho) m) is,
    all_pairs (λ x. order m.0 x ≡ Less) (λ x. left k past x ≡ false) (λ x up. both_false (not (behind k past x)) (behind h (not ho) x) (further h (not ho) m.0 x up is)) ms up,
  )

  end_step : (b : Bool) (k : Plain) (past : Bool) (n m : Pair) (ms : List Pair) → b ≡ behind k past m → AllByRecursion (λ x. order m.0 x ≡ Less) (keys_of ms)
      → cond (not b) (Some m) (next_of k past ms) ≡ Some n → behind h (not ho) n ≡ false
      → (next_of k past ms ≡ Some n → filter (left k past) ms ≡ []) → filter (left k past) (m ∷ ms) ≡ []
  end_step true k past n m ms e up is out ih = none_at (left k past) (left k past m) m (filter (left k past) ms) (not_both (behind k past m) (behind h (not ho) m) (sym e)) (ih is)
  end_step false k past n m ms e up is out ih = let same : m ≡ n = cc in filter_none (left k past) (m ∷ ms) (end_all k past m ms up (subst (λ (x : Pair). behind h (not ho) x ≡ false) (sym same) out))

  past_all : (k : Plain) (past : Bool) (n : Pair) (ms : List Pair) → AreRising ms → next_of k past ms ≡ Some n → behind h (not ho) n ≡ false → filter (left k past) ms ≡ []
  unfolding IsStrictlySortedBy
  past_all k past n [] up is out = cc
  past_all k past n (m ∷ ms) up is out = end_step (behind k past m) k past n m ms refl up.0 is out (λ found. past_all k past n ms up.1 found out)

  -- one, and what is past it
  found_above : (b : Bool) (P : Pair → Type 0) (k : Plain) (past : Bool) (n m : Pair) (ms : List Pair) → cond (not b) (Some m) (next_of k past ms) ≡ Some n → P m → (next_of k past ms ≡ Some n → P n) → P n
  found_above true P k past n m ms is here later = later is
  found_above false P k past n m ms is here later = let same : m ≡ n = cc in subst P same here

  is_above : (P : Pair → Type 0) (k : Plain) (past : Bool) (n : Pair) (ms : List Pair) → AllByRecursion P ms → next_of k past ms ≡ Some n → P n
  is_above P k past n [] all is = cc
  is_above P k past n (m ∷ ms) all is = found_above (behind k past m) P k past n m ms is all.0 (is_above P k past n ms all.1)

  here : (k : Plain) (past : Bool) (m : Pair) (ms : List Pair) → AllByRecursion (λ x. order m.0 x ≡ Less) (keys_of ms) → behind k past m ≡ false → behind h (not ho) m ≡ true
      → filter (left k past) (m ∷ ms) ≡ m ∷ filter (left m.0 true) (m ∷ ms)
  here k past m ms up in_front out =
      same_at (left k past) (left k past) (left k past m) true m (filter (left k past) ms) (filter (left m.0 true) ms) (λ i. not (in_front i) && out i)
      (filter_same (left k past) (left m.0 true) ms (all_pairs (λ x. order m.0 x ≡ Less) (λ x. left k past x ≡ left m.0 true x)
      (λ x up i. not ((further k past m.0 x up in_front ∙ sym (ap (is_behind true) up)) i) && behind h (not ho) x) ms up))
      ∙ ap (λ t. m ∷ t) (sym (itself (left m.0 true m) (not_both (behind m.0 true m) (behind h (not ho) m) (ap (is_behind true) (tied_itself order_total m.0)))))
    where
      itself : (b : Bool) → b ≡ false → cond b (m ∷ filter (left m.0 true) ms) (filter (left m.0 true) ms) ≡ filter (left m.0 true) ms
      itself true e = cc
      itself false e = refl

  one_step : (b : Bool) (k : Plain) (past : Bool) (n m : Pair) (ms : List Pair) → b ≡ behind k past m → AllByRecursion (λ x. order m.0 x ≡ Less) (keys_of ms)
      → cond (not b) (Some m) (next_of k past ms) ≡ Some n → behind h (not ho) n ≡ true
      → (next_of k past ms ≡ Some n → filter (left k past) ms ≡ n ∷ filter (left n.0 true) ms) → filter (left k past) (m ∷ ms) ≡ n ∷ filter (left n.0 true) (m ∷ ms)
  one_step true k past n m ms e up is out ih =
      none_at_front (left k past m) (not_both (behind k past m) (behind h (not ho) m) (sym e)) ∙ ih is
      ∙ ap (λ t. n ∷ t) (sym (none_behind (left n.0 true m) (not_both (behind n.0 true m) (behind h (not ho) m) (turned m.0 n.0 (is_above (λ x. order m.0 x.0 ≡ Less) k past n ms (all_pairs (λ x. order m.0 x ≡ Less) (λ x. order m.0 x.0 ≡ Less) (λ x up. up) ms up) is)))))
    where
      none_at_front : (c : Bool) → c ≡ false → cond c (m ∷ filter (left k past) ms) (filter (left k past) ms) ≡ filter (left k past) ms
      none_at_front true h = cc
      none_at_front false h = refl

      none_behind : (c : Bool) → c ≡ false → cond c (m ∷ filter (left n.0 true) ms) (filter (left n.0 true) ms) ≡ filter (left n.0 true) ms
      none_behind true h = cc
      none_behind false h = refl
  one_step false k past n m ms e up is out ih =
      let same : m ≡ n = cc in
      subst (λ (x : Pair). filter (left k past) (m ∷ ms) ≡ x ∷ filter (left x.0 true) (m ∷ ms)) same (here k past m ms up (sym e) (subst (λ (x : Pair). behind h (not ho) x ≡ true) (sym same) out))

  one_left : (k : Plain) (past : Bool) (n : Pair) (ms : List Pair) → AreRising ms → next_of k past ms ≡ Some n → behind h (not ho) n ≡ true → filter (left k past) ms ≡ n ∷ filter (left n.0 true) ms
  unfolding IsStrictlySortedBy
  one_left k past n [] up is out = cc
  one_left k past n (m ∷ ms) up is out = one_step (behind k past m) k past n m ms refl up.0 is out (λ found. one_left k past n ms up.1 found out)

-- ---- as code cites them
pub nothing_left : (k h : Plain) (past ho : Bool) (ms : List Pair) → None ≡ next_of k past ms → filter (lies_within k past h ho) ms ≡ []
nothing_left k h past ho ms is = none_left h ho k past ms (sym is)

pub end_passed : (k h : Plain) (past ho : Bool) (n : Pair) (ms : List Pair) → AreRising ms → Some n ≡ next_of k past ms → not (is_behind (not ho) (order h n.0)) ≡ true → filter (lies_within k past h ho) ms ≡ []
end_passed k h past ho n ms up is out = past_all h ho k past n ms up (sym is) (negated (is_behind (not ho) (order h n.0)) out)
  where
    negated : (b : Bool) → not b ≡ true → b ≡ false
    negated true e = cc
    negated false e = refl

pub one_passed : (k h : Plain) (past ho : Bool) (n : Pair) (ms : List Pair) → AreRising ms → Some n ≡ next_of k past ms → not (is_behind (not ho) (order h n.0)) ≡ false
    → filter (lies_within k past h ho) ms ≡ n ∷ filter (lies_within n.0 true h ho) ms
one_passed k h past ho n ms up is out = one_left h ho k past n ms up (sym is) (negated (is_behind (not ho) (order h n.0)) out)
  where
    negated : (b : Bool) → not b ≡ false → b ≡ true
    negated true e = refl
    negated false e = cc
