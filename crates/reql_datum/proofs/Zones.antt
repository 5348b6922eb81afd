-- Zones are in the order of their texts.
use Rattle.std.proofs.Common.{◌≡◌, ℕ, pos, negsuc, zero, suc, ◌+◌, ◌/◌, ◌%◌, ◌<◌, inl, inr, List, [], ◌∷◌, Ordering, Less, Equal, Greater, refl, sym, ap, ◌∙◌, arith, Bool, true, false, ◌&&◌, int_le}
use Rattle.std.specs.Ordering.{nat_cmp, ordering_reverse, MatchOrdering}
use Rattle.std.specs.Cmp.Lexicographic.{slice_cmp}
use Rattle.std.proofs.lemmas.Cmp.{ranked, nat_list_cmp_total, tied_itself}
use Rattle.std.proofs.lemmas.Int.{ints}
use Rattle.reql_datum.specs.Order.{text_less}
use Rattle.reql_datum.specs.Zone.{IsZone, clock, ZonesByText}
use Rattle.reql_datum.proofs.Order.{text_means}

not_above : (m n : ℕ) → m < n → n < 1440 → text_less (clock n) (clock m) → ⊥
not_above m n lt top (inl a) = omega arith
not_above m n lt top (inr (e, inl a)) = omega arith
not_above m n lt top (inr (e, inr (f, inl a))) = omega arith
not_above m n lt top (inr (e, inr (f, inr (g, inl a)))) = omega arith
not_above m n lt top (inr (e, inr (f, inr (g, inr (h, inl a))))) = omega arith
not_above m n lt top (inr (e, inr (f, inr (g, inr (h, inr (i, a)))))) = absurd a

abbrev at_or : List ℕ → ℕ → ℕ
at_or [] i = 0
at_or (x ∷ xs) zero = x
at_or (x ∷ xs) (suc i) = at_or xs i

not_same : (m n : ℕ) → m < n → n < 1440 → clock m ≡ clock n → ⊥
not_same m n lt top e =
    let a : 48 + m / 600 ≡ 48 + n / 600 = ap (λ t. at_or t 0) e in
    let b : 48 + m / 60 % 10 ≡ 48 + n / 60 % 10 = ap (λ t. at_or t 1) e in
    let c : 48 + m % 60 / 10 ≡ 48 + n % 60 / 10 = ap (λ t. at_or t 3) e in
    let d : 48 + m % 10 ≡ 48 + n % 10 = ap (λ t. at_or t 4) e in
    omega arith

below_at : (o : Ordering) (m n : ℕ) → m < n → n < 1440 → MatchOrdering o (text_less (clock m) (clock n)) (clock m ≡ clock n) (text_less (clock n) (clock m)) → o ≡ Less
below_at Less m n lt top h = refl
below_at Equal m n lt top h = absurd (not_same m n lt top h)
below_at Greater m n lt top h = absurd (not_above m n lt top h)

below : (m n : ℕ) → m < n → n < 1440 → slice_cmp nat_cmp (clock m) (clock n) ≡ Less
below m n lt top = below_at (slice_cmp nat_cmp (clock m) (clock n)) m n lt top (text_means (clock m) (clock n))

clocks_at : (o : Ordering) (m n : ℕ) → m < 1440 → n < 1440 → MatchOrdering o (m < n) (m ≡ n) (n < m) → o ≡ slice_cmp nat_cmp (clock m) (clock n)
clocks_at Less m n small top h = sym (below m n h top)
clocks_at Equal m n small top h = rw h (sym (tied_itself nat_list_cmp_total (clock n)))
clocks_at Greater m n small top h = sym (nat_list_cmp_total.antisymm (clock m) (clock n) ∙ ap ordering_reverse (below n m h small))

clocks : (m n : ℕ) → m < 1440 → n < 1440 → nat_cmp m n ≡ slice_cmp nat_cmp (clock m) (clock n)
clocks m n small top = clocks_at (nat_cmp m n) m n small top (ranked m n (nat_cmp m n) refl)

lifted : (m n : ℕ) (o : Ordering) → MatchOrdering o (m < n) (m ≡ n) (n < m) → MatchOrdering o (suc m < suc n) (suc m ≡ suc n) (suc n < suc m)
lifted m n Less h = omega arith
lifted m n Equal h = ap suc h
lifted m n Greater h = omega arith

both : (a b : Bool) → (a && b) ≡ true → (a ≡ true) × (b ≡ true)
both true b h = (refl, h)
both false b h = cc

east : (m : ℕ) → IsZone (pos m) → m < 1440
east m h =
    let most : int_le (pos m) (pos 1439) ≡ true = (both (int_le (negsuc 1438) (pos m)) (int_le (pos m) (pos 1439)) h).1 in
    omega (arith, ints)

west : (m : ℕ) → IsZone (negsuc m) → suc m < 1440
west m h =
    let least : int_le (negsuc 1438) (negsuc m) ≡ true = (both (int_le (negsuc 1438) (negsuc m)) (int_le (negsuc m) (pos 1439)) h).0 in
    omega (arith, ints)

pub zones_by_text : ZonesByText
zones_by_text (pos m) (pos n) h k = clocks m n (east m h) (east n k)
zones_by_text (pos m) (negsuc n) h k = refl
zones_by_text (negsuc m) (pos n) h k = refl
zones_by_text (negsuc m) (negsuc n) h k = clocks_at (nat_cmp m n) (suc m) (suc n) (west m h) (west n k) (lifted m n (nat_cmp m n) (ranked m n (nat_cmp m n) refl))
