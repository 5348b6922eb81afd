-- Counting in bags of documents, and that the counts of a rising list are the list.
use Rattle.std.proofs.Common.{◌≡◌, ◌+◌, ◌-◌, ◌≤◌, List, [], ◌∷◌, ◌++◌, Bool, true, false, cond, if◌then◌else◌, refl, ap, arith, ◌⊎◌, inl, inr, Ordering, Less, Equal, Greater}
use Rattle.std.specs.Ordering.{is_eq, is_lt, MatchOrdering}
use Rattle.std.proofs.lemmas.Cmp.{tied_itself}
use Rattle.reql_datum.specs.Plain.{Plain}
use Rattle.reql_datum.specs.Order.{order, less}
use Rattle.reql_datum.specs.Total.{order_total}
use Rattle.reql_datum.proofs.Order.{order_means}
use Rattle.reql_bag.specs.Bag.{one, times, in_order, without_one, less_all}
use Rattle.reql_rules.specs.Types.{same}
use Rattle.reql_rules.specs.Sorting.{into_place}

-- ---- equal documents
same_at : (o : Ordering) (L E G : Type 0) → MatchOrdering o L E G → is_eq o ≡ true → E
same_at Less L E G h is = cc
same_at Equal L E G h is = h
same_at Greater L E G h is = cc

pub same_is : (a b : Plain) → same a b ≡ true → a ≡ b
same_is a b h = same_at (order a b) (less a b) (a ≡ b) (less b a) (order_means a b) h

pub same_itself : (a : Plain) → same a a ≡ true
same_itself a = ap is_eq (tied_itself order_total a)

pub one_itself : (a : Plain) → one a a ≡ 1
one_itself a = rw (same_itself a) refl

bool_cases : (b : Bool) → (b ≡ true) ⊎ (b ≡ false)
bool_cases true = inl refl
bool_cases false = inr refl

-- two documents are equal, or different
pub same_or : (a b : Plain) → (a ≡ b) ⊎ (same a b ≡ false)
same_or a b = elim (bool_cases (same a b)) [ inl h ↦ inl (same_is a b h) | inr h ↦ inr h ]

pub one_other : (a b : Plain) → same a b ≡ false → one a b ≡ 0
one_other a b h = rw h refl

pub one_le : (a b : Plain) → one a b ≤ 1
one_le a b = elim (same a b) as (λ t. cond t 1 0 ≤ 1) [ true ↦ omega arith | false ↦ omega arith ]

-- ---- counts
pub times_append : (v : Plain) (xs ys : List Plain) → times v (xs ++ ys) ≡ times v xs + times v ys
times_append v [] ys = omega arith
times_append v (x ∷ xs) ys = omega (arith, times_append v xs ys)

placed_at : (b : Bool) (v w x : Plain) (xs rest : List Plain) → times v rest ≡ one v w + times v xs → times v (if b then x ∷ rest else w ∷ x ∷ xs) ≡ one v w + (one v x + times v xs)
placed_at true v w x xs rest h = omega (arith, h)
placed_at false v w x xs rest h = refl

pub times_placed : (v w : Plain) (xs : List Plain) → times v (into_place order w xs) ≡ one v w + times v xs
times_placed v w [] = refl
times_placed v w (x ∷ xs) = placed_at (is_lt (order x w)) v w x xs (into_place order w xs) (times_placed v w xs)

pub times_sorted : (v : Plain) (xs : List Plain) → times v (in_order xs) ≡ times v xs
times_sorted v [] = refl
times_sorted v (x ∷ xs) = omega (arith, times_placed v x (in_order xs), times_sorted v xs)

without_at : (v w x : Plain) (xs rest : List Plain) → (w ≡ x) ⊎ (same w x ≡ false) → (v ≡ w) ⊎ (same v w ≡ false) → times v rest ≡ times v xs - one v w → times v (cond (same w x) xs (x ∷ rest)) ≡ (one v x + times v xs) - one v w
without_at v w x xs rest (inl e) q h = rw (e, same_itself x) (omega arith)
without_at v w x xs rest (inr ne) (inl e) h = rw ne (let off : one v x ≡ 0 = rw e (one_other w x ne) in omega (arith, off, h))
without_at v w x xs rest (inr ne) (inr mm) h = rw ne (omega (arith, one_other v w mm, h))

pub times_without : (v w : Plain) (xs : List Plain) → times v (without_one w xs) ≡ times v xs - one v w
times_without v w [] = omega arith
times_without v w (x ∷ xs) = without_at v w x xs (without_one w xs) (same_or w x) (same_or v w) (times_without v w xs)

-- the difference is by counts
pub times_less_all : (v : Plain) (xs ys : List Plain) → times v (less_all xs ys) ≡ times v xs - times v ys
times_less_all v xs [] = omega arith
times_less_all v xs (y ∷ ys) = omega (arith, times_less_all v (without_one y xs) ys, times_without v y xs)
