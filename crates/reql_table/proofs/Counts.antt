-- How many keys of a tree lie between two.
use Rattle.std.proofs.Common.{◌≡◌, ◌≤◌, ◌+◌, ◌-◌, ℕ, List, [], ◌∷◌, length, Bool, true, false, not, ◌&&◌, cond, refl, sym, ap, ◌∙◌, arith, Ordering, Less, Equal, Greater}
use Rattle.std.proofs.lemmas.List.{length-map}
use Rattle.std.proofs.lemmas.List.Sums.{length-filter}
use Rattle.std.specs.List.{filter, count_by}
use Rattle.std.specs.Ordering.{is_lt, ordering_reverse}
use Rattle.reql_datum.specs.Order.{order}
use Rattle.reql_datum.specs.Plain.{Plain}
use Rattle.reql_datum.specs.Total.{order_total}
use Rattle.reql_ptree.specs.Next.{is_behind, behind}
use Rattle.reql_ptree.specs.Range.{lies_within, range_of}

abbrev Pairs : Type 0
Pairs = List (Plain × Plain)

is_less : (o : Ordering) → is_lt o ≡ true → o ≡ Less
is_less Less h = refl
is_less Equal h = cc
is_less Greater h = cc

-- what is not above the low key is below the high one
flip : (h k : Plain) → order k h ≡ Less → order h k ≡ Greater
flip h k e = order_total.antisymm h k ∙ ap ordering_reverse e

below_by : (o : Ordering) (lo : Bool) (l h k : Plain) → o ≡ order l k → order l h ≡ Less → is_behind lo o ≡ true → order h k ≡ Greater
below_by Less lo l h k e up is = absurd (let f : false ≡ true = is in cc)
below_by Equal lo l h k e up is = flip h k (sym (order_total.congr l k h (sym e)) ∙ up)
below_by Greater lo l h k e up is = flip h k (order_total.trans k l h (order_total.antisymm k l ∙ ap ordering_reverse (sym e)) up)

behind_both : (l h : Plain) (lo at : Bool) → order l h ≡ Less → (m : Plain × Plain) → behind l lo m ≡ true → behind h at m ≡ true
behind_both l h lo at up m is = rw (below_by (order l m.0) lo l h m.0 refl up is) refl

fewer_more : {X : Type 0} (p : X → Bool) (xs : List X) → length (filter p xs) ≡ count_by p xs
fewer_more p xs = length-filter p xs

cond_length : {X : Type 0} (b : Bool) (x : X) (xs : List X) → length (cond b (x ∷ xs) xs) ≡ cond b (1 + length xs) (length xs)
cond_length true x xs = omega arith
cond_length false x xs = refl

counted_more : {X : Type 0} (p : X → Bool) (x : X) (xs : List X) → count_by p (x ∷ xs) ≡ cond (p x) (1 + count_by p xs) (count_by p xs)
counted_more p x xs = sym (fewer_more p (x ∷ xs)) ∙ cond_length (p x) x (filter p xs) ∙ (λ i. cond (p x) (1 + fewer_more p xs i) (fewer_more p xs i))

module _ {X : Type 0} (p q : X → Bool) (both : (x : X) → p x ≡ true → q x ≡ true) where
  count_at : (a b : Bool) (n m k : ℕ) → (a ≡ true → b ≡ true) → n + m ≡ k → cond (not a && b) (1 + n) n + cond a (1 + m) m ≡ cond b (1 + k) k
  count_at true true n m k h e = omega (arith, e)
  count_at true false n m k h e = absurd (let f : false ≡ true = h refl in cc)
  count_at false true n m k h e = omega (arith, e)
  count_at false false n m k h e = e

  counts_add : (xs : List X) → count_by (λ x. not (p x) && q x) xs + count_by p xs ≡ count_by q xs
  counts_add [] = refl
  counts_add (x ∷ xs) =
      (λ i. counted_more (λ x. not (p x) && q x) x xs i + counted_more p x xs i)
      ∙ count_at (p x) (q x) (count_by (λ x. not (p x) && q x) xs) (count_by p xs) (count_by q xs) (both x) (counts_add xs) ∙ sym (counted_more q x xs)

between_count : (l h : Plain) (lo ho : Bool) (ms : Pairs) → order l h ≡ Less → length (range_of l lo h ho ms) + count_by (behind l lo) ms ≡ count_by (behind h (not ho)) ms
between_count l h lo ho ms up =
    ap (λ n. n + count_by (behind l lo) ms) (length-map (filter (lies_within l lo h ho) ms) (λ (m : Plain × Plain). m.1) ∙ length-filter (lies_within l lo h ho) ms)
    ∙ counts_add (behind l lo) (behind h (not ho)) (behind_both l h lo (not ho) up) ms

pub fewer : (l h : Plain) (lo ho : Bool) (ms : Pairs) (from to : ℕ) → is_lt (order l h) ≡ true → to ≡ count_by (behind h (not ho)) ms → from ≡ count_by (behind l lo) ms → from ≤ to
fewer l h lo ho ms from to up e g = omega (arith, e, g, between_count l h lo ho ms (is_less (order l h) up))

pub counted : (l h : Plain) (lo ho : Bool) (ms : Pairs) (from to : ℕ) → is_lt (order l h) ≡ true → to ≡ count_by (behind h (not ho)) ms → from ≡ count_by (behind l lo) ms → to - from ≡ length (range_of l lo h ho ms)
counted l h lo ho ms from to up e g = omega (arith, e, g, between_count l h lo ho ms (is_less (order l h) up))
