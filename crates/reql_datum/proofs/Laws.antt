-- The relation by which documents are ordered is a strict order of them all.
use Rattle.std.proofs.Common.{◌≡◌, ◌↔◌, ℕ, ℤ, pos, negsuc, ◌<◌, ◌<ℤ◌, ◌⊎◌, inl, inr, true, false, List, [], ◌∷◌, Ordering, Less, Equal, Greater, refl, arith, subst, Bool}
use Rattle.std.specs.Ordering.{nat_cmp, int_cmp, ordering_then, MatchOrdering}
use Rattle.std.specs.Cmp.Lexicographic.{slice_cmp}
use Rattle.std.proofs.lemmas.Cmp.{ranked, int_ranked, nat_cmp_total, int_cmp_total, nat_list_cmp_total, tied_itself}
use Rattle.std.proofs.lemmas.Int.{ints}
use Rattle.reql_datum.specs.Plain.{Plain, low, array, boolean, null, number, object, binary, time, text, high, Plains, no_items, item, Pairs, no_pairs, pair}
use Rattle.reql_datum.specs.Zone.{zone_order, zone_less, moment_order, moment_less}
use Rattle.reql_datum.specs.Order.{rank, less, less_within, items_less, pairs_less, text_less, order, order_within, items_order, pairs_order}
use Rattle.reql_datum.proofs.Order.{order_means}
use Rattle.reql_datum.specs.Total.{order_total, kind_is, items_in, bool_in, pairs_in, moment_in, bytes_of, number_of}

-- ---- what is below is answered Less
nat_at : (o : Ordering) (m n : ℕ) → m < n → MatchOrdering o (m < n) (m ≡ n) (n < m) → o ≡ Less
nat_at Less m n h k = refl
nat_at Equal m n h k = absurd (omega arith)
nat_at Greater m n h k = absurd (omega arith)

nat_says : (m n : ℕ) → m < n → nat_cmp m n ≡ Less
nat_says m n h = nat_at (nat_cmp m n) m n h (ranked m n _ refl)

int_at : (o : Ordering) (m n : ℤ) → m <ℤ n → MatchOrdering o (m <ℤ n) (m ≡ n) (n <ℤ m) → o ≡ Less
int_at Less m n h k = refl
int_at Equal m n h k = absurd (omega (arith, ints))
int_at Greater m n h k = absurd (omega (arith, ints))

int_says : (m n : ℤ) → m <ℤ n → int_cmp m n ≡ Less
int_says m n h = int_at (int_cmp m n) m n h (int_ranked m n _ refl)

-- the first answer, or else the second
then_says : (o p : Ordering) (L E M : Type 0) → (L → o ≡ Less) → (E → o ≡ Equal) → (M → p ≡ Less) → L ⊎ (E × M) → ordering_then o p ≡ Less
then_says o p L E M below same later (inl h) = rw (below h)
then_says o p L E M below same later (inr (e, h)) = rw (same e, later h)

same_nat : (x y : ℕ) → x ≡ y → nat_cmp x y ≡ Equal
same_nat x y e = rw e (tied_itself nat_cmp_total y)

same_int : (x y : ℤ) → x ≡ y → int_cmp x y ≡ Equal
same_int x y e = rw e (tied_itself int_cmp_total y)

same_text : (s t : List ℕ) → s ≡ t → slice_cmp nat_cmp s t ≡ Equal
same_text s t e = rw e (tied_itself nat_list_cmp_total t)

same_plain : (a b : Plain) → a ≡ b → order a b ≡ Equal
same_plain a b e = rw e (tied_itself order_total b)

text_says : (s t : List ℕ) → text_less s t → slice_cmp nat_cmp s t ≡ Less
text_says [] [] h = absurd h
text_says [] (y ∷ ys) h = refl
text_says (x ∷ xs) [] h = absurd h
text_says (x ∷ xs) (y ∷ ys) h = then_says (nat_cmp x y) (slice_cmp nat_cmp xs ys) (x < y) (x ≡ y) (text_less xs ys) (nat_says x y) (same_nat x y) (text_says xs ys) h

zone_says : (z y : ℤ) → zone_less z y → zone_order z y ≡ Less
zone_says (pos m) (pos n) h = nat_says m n h
zone_says (pos m) (negsuc n) h = refl
zone_says (negsuc m) (pos n) h = absurd h
zone_says (negsuc m) (negsuc n) h = nat_says m n h

moment_says : (s t : ℤ × ℤ) → moment_less s t → moment_order s t ≡ Less
moment_says s t h = then_says (int_cmp s.0 t.0) (zone_order s.1 t.1) (s.0 <ℤ t.0) (s.0 ≡ t.0) (zone_less s.1 t.1) (int_says s.0 t.0) (same_int s.0 t.0) (zone_says s.1 t.1) h

abbrev SaysWithin : Plain → Plain → Type 0
SaysWithin a b = less_within a b → order_within a b ≡ Less

bools_say : (a b : Bool) → SaysWithin (boolean a) (boolean b)
bools_say false false h = cc (h.1)
bools_say false true h = refl
bools_say true b h = cc (h.0)

says_by : (a b : Plain) → (rank a ≡ rank b → SaysWithin a b) → less a b → order a b ≡ Less
says_by a b within (inl h) = rw (nat_says (rank a) (rank b) h)
says_by a b within (inr (e, h)) = rw (same_nat (rank a) (rank b) e) (within e h)

mutual
  within_says : (a b : Plain) → rank a ≡ rank b → SaysWithin a b
  within_says low b e = subst (SaysWithin low) (kind_is 0 b e) (λ h. absurd h)
  within_says (array us) b e = subst (SaysWithin (array us)) (kind_is 1 b e) (items_say us (items_in b))
  within_says (boolean c) b e = subst (SaysWithin (boolean c)) (kind_is 2 b e) (bools_say c (bool_in b))
  within_says null b e = subst (SaysWithin null) (kind_is 3 b e) (λ h. absurd h)
  within_says (number m) b e = subst (SaysWithin (number m)) (kind_is 4 b e) (int_says m (number_of b))
  within_says (object ls) b e = subst (SaysWithin (object ls)) (kind_is 5 b e) (pairs_say ls (pairs_in b))
  within_says (binary s) b e = subst (SaysWithin (binary s)) (kind_is 6 b e) (text_says s (bytes_of b))
  within_says (time t) b e = subst (SaysWithin (time t)) (kind_is 7 b e) (moment_says t (moment_in b))
  within_says (text s) b e = subst (SaysWithin (text s)) (kind_is 8 b e) (text_says s (bytes_of b))
  within_says high b e = subst (SaysWithin high) (kind_is 9 b e) (λ h. absurd h)

  items_say : (us vs : Plains) → items_less us vs → items_order us vs ≡ Less
  items_say no_items no_items h = absurd h
  items_say no_items (item v vs) h = refl
  items_say (item u us) no_items h = absurd h
  items_say (item u us) (item v vs) h = then_says (order u v) (items_order us vs) (less u v) (u ≡ v) (items_less us vs) (says_by u v (within_says u v)) (same_plain u v) (items_say us vs) h

  pairs_say : (ls ms : Pairs) → pairs_less ls ms → pairs_order ls ms ≡ Less
  pairs_say no_pairs no_pairs h = absurd h
  pairs_say no_pairs (pair k v ms) h = refl
  pairs_say (pair j u ls) no_pairs h = absurd h
  pairs_say (pair j u ls) (pair k v ms) h =
      then_says (slice_cmp nat_cmp j k) (ordering_then (order u v) (pairs_order ls ms)) (text_less j k) (j ≡ k) (less u v ⊎ ((u ≡ v) × pairs_less ls ms)) (text_says j k) (same_text j k)
      (then_says (order u v) (pairs_order ls ms) (less u v) (u ≡ v) (pairs_less ls ms) (says_by u v (within_says u v)) (same_plain u v) (pairs_say ls ms)) h

says : (a b : Plain) → less a b → order a b ≡ Less
says a b = says_by a b (within_says a b)

-- ---- so the laws of the answer are those of the relation
below_at : (a b : Plain) (o : Ordering) → o ≡ Less → MatchOrdering o (less a b) (a ≡ b) (less b a) → less a b
below_at a b Less e h = h
below_at a b Equal e h = cc
below_at a b Greater e h = cc

means_less : (a b : Plain) → order a b ≡ Less → less a b
means_less a b e = below_at a b (order a b) e (order_means a b)

pub less_transitive : (a b c : Plain) → less a b → less b c → less a c
less_transitive a b c h k = means_less a c (order_total.trans a b c (says a b h) (says b c k))

pub less_irreflexive : (a : Plain) → less a a → ⊥
less_irreflexive a h = let e : order a a ≡ Equal = tied_itself order_total a in let f : order a a ≡ Less = says a a h in cc

pub below_is : (a b : Plain) → (order a b ≡ Less) ↔ less a b
below_is a b = (means_less a b, says a b)

equal_at : (a b : Plain) (o : Ordering) → o ≡ Equal → MatchOrdering o (less a b) (a ≡ b) (less b a) → a ≡ b
equal_at a b Less e h = cc
equal_at a b Equal e h = h
equal_at a b Greater e h = cc

pub equal_is : (a b : Plain) → (order a b ≡ Equal) ↔ (a ≡ b)
equal_is a b = (λ e. equal_at a b (order a b) e (order_means a b), same_plain a b)

one_of : (o : Ordering) (L E G : Type 0) → MatchOrdering o L E G → L ⊎ (E ⊎ G)
one_of Less L E G h = inl h
one_of Equal L E G h = inr (inl h)
one_of Greater L E G h = inr (inr h)

pub less_total : (a b : Plain) → less a b ⊎ ((a ≡ b) ⊎ less b a)
less_total a b = one_of (order a b) (less a b) (a ≡ b) (less b a) (order_means a b)
