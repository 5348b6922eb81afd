-- The order of plain values is the relation, and it is total.
use Rattle.std.proofs.Common.{◌≡◌, ℕ, ℤ, pos, negsuc, ◌<◌, ◌<ℤ◌, ◌⊎◌, inl, inr, true, false, List, [], ◌∷◌, Ordering, Less, Equal, Greater, refl, sym, ap, subst, Bool}
use Rattle.std.specs.Ordering.{nat_cmp, int_cmp, ordering_then, MatchOrdering}
use Rattle.std.specs.Cmp.Lexicographic.{slice_cmp}
use Rattle.std.proofs.lemmas.Cmp.{ranked, int_ranked}
use Rattle.reql_datum.specs.Plain.{Plain, low, array, boolean, null, number, object, binary, time, text, high, Plains, no_items, item, Pairs, no_pairs, pair}
use Rattle.reql_datum.specs.Zone.{zone_order, zone_less, moment_order, moment_less}
use Rattle.reql_datum.specs.Order.{rank, less, less_within, items_less, pairs_less, text_less, order, order_within, items_order, pairs_order}
use Rattle.reql_datum.specs.Total.{kind_is, items_in, bool_in, pairs_in, moment_in, bytes_of, number_of}

-- two answers in a row, and what they say
then_means : (o p : Ordering) (L E G L' E' G' B F : Type 0) → MatchOrdering o L E G → MatchOrdering p L' E' G' → (E → E' → B) → (E → F) → MatchOrdering (ordering_then o p) (L ⊎ (E × L')) B (G ⊎ (F × G'))
then_means Less p L E G L' E' G' B F h k both flip = inl h
then_means Equal Less L E G L' E' G' B F h k both flip = inr (h, k)
then_means Equal Equal L E G L' E' G' B F h k both flip = both h k
then_means Equal Greater L E G L' E' G' B F h k both flip = inr (flip h, k)
then_means Greater p L E G L' E' G' B F h k both flip = inl h

pub text_means : (s t : List ℕ) → MatchOrdering (slice_cmp nat_cmp s t) (text_less s t) (s ≡ t) (text_less t s)
text_means [] [] = refl
text_means [] (y ∷ ys) = tt
text_means (x ∷ xs) [] = tt
text_means (x ∷ xs) (y ∷ ys) =
    then_means (nat_cmp x y) (slice_cmp nat_cmp xs ys) (x < y) (x ≡ y) (y < x) (text_less xs ys) (xs ≡ ys) (text_less ys xs) (x ∷ xs ≡ y ∷ ys) (y ≡ x)
    (ranked x y _ refl) (text_means xs ys) (λ e f i. e i ∷ f i) sym

pub text_says : (s t : List ℕ) (o : Ordering) → o ≡ slice_cmp nat_cmp s t → MatchOrdering o (text_less s t) (s ≡ t) (text_less t s)
text_says s t o e = rw e (text_means s t)

same_means : (o : Ordering) (L E G F : Type 0) → (E → F) → MatchOrdering o L E G → MatchOrdering o L F G
same_means Less L E G F f h = h
same_means Equal L E G F f h = f h
same_means Greater L E G F f h = h

zone_means : (z y : ℤ) → MatchOrdering (zone_order z y) (zone_less z y) (z ≡ y) (zone_less y z)
zone_means (pos m) (pos n) = same_means (nat_cmp m n) (m < n) (m ≡ n) (n < m) (pos m ≡ pos n) (ap pos) (ranked m n _ refl)
zone_means (pos m) (negsuc n) = tt
zone_means (negsuc m) (pos n) = tt
zone_means (negsuc m) (negsuc n) = same_means (nat_cmp m n) (m < n) (m ≡ n) (n < m) (negsuc m ≡ negsuc n) (ap negsuc) (ranked m n _ refl)

moment_means : (s t : ℤ × ℤ) → MatchOrdering (moment_order s t) (moment_less s t) (s ≡ t) (moment_less t s)
moment_means s t =
    then_means (int_cmp s.0 t.0) (zone_order s.1 t.1) (s.0 <ℤ t.0) (s.0 ≡ t.0) (t.0 <ℤ s.0) (zone_less s.1 t.1) (s.1 ≡ t.1) (zone_less t.1 s.1) (s ≡ t) (t.0 ≡ s.0)
    (int_ranked s.0 t.0 _ refl) (zone_means s.1 t.1) (λ e f i. (e i, f i)) sym

-- an answer, and a second one that means something where the first is Equal
then_means_at : (o p : Ordering) (L E G L' B G' F : Type 0) → MatchOrdering o L E G → (E → MatchOrdering p L' B G') → (E → F) → MatchOrdering (ordering_then o p) (L ⊎ (E × L')) B (G ⊎ (F × G'))
then_means_at Less p L E G L' B G' F h k flip = inl h
then_means_at Equal Less L E G L' B G' F h k flip = inr (h, k h)
then_means_at Equal Equal L E G L' B G' F h k flip = k h
then_means_at Equal Greater L E G L' B G' F h k flip = inr (flip h, k h)
then_means_at Greater p L E G L' B G' F h k flip = inl h

abbrev MeansWithin : Plain → Plain → Type 0
MeansWithin a b = MatchOrdering (order_within a b) (less_within a b) (a ≡ b) (less_within b a)

bool_means : (a b : Bool) → MeansWithin (boolean a) (boolean b)
bool_means false false = refl
bool_means false true = (refl, refl)
bool_means true false = (refl, refl)
bool_means true true = refl

means_by : (a b : Plain) → (rank a ≡ rank b → MeansWithin a b) → MatchOrdering (order a b) (less a b) (a ≡ b) (less b a)
means_by a b within =
    then_means_at (nat_cmp (rank a) (rank b)) (order_within a b) (rank a < rank b) (rank a ≡ rank b) (rank b < rank a) (less_within a b) (a ≡ b) (less_within b a) (rank b ≡ rank a)
    (ranked (rank a) (rank b) _ refl) within sym

mutual
  within_means : (a b : Plain) → rank a ≡ rank b → MeansWithin a b
  within_means low b e = subst (MeansWithin low) (kind_is 0 b e) refl
  within_means (array us) b e =
      let vs = items_in b in
      subst (MeansWithin (array us)) (kind_is 1 b e) (same_means (items_order us vs) (items_less us vs) (us ≡ vs) (items_less vs us) (array us ≡ array vs) (ap array) (items_means us vs))
  within_means (boolean c) b e = subst (MeansWithin (boolean c)) (kind_is 2 b e) (bool_means c (bool_in b))
  within_means null b e = subst (MeansWithin null) (kind_is 3 b e) refl
  within_means (number m) b e =
      let n = number_of b in
      subst (MeansWithin (number m)) (kind_is 4 b e) (same_means (int_cmp m n) (m <ℤ n) (m ≡ n) (n <ℤ m) (number m ≡ number n) (ap number) (int_ranked m n _ refl))
  within_means (object ls) b e =
      let ms = pairs_in b in
      subst (MeansWithin (object ls)) (kind_is 5 b e) (same_means (pairs_order ls ms) (pairs_less ls ms) (ls ≡ ms) (pairs_less ms ls) (object ls ≡ object ms) (ap object) (pairs_means ls ms))
  within_means (binary s) b e =
      let t = bytes_of b in
      subst (MeansWithin (binary s)) (kind_is 6 b e) (same_means (slice_cmp nat_cmp s t) (text_less s t) (s ≡ t) (text_less t s) (binary s ≡ binary t) (ap binary) (text_means s t))
  within_means (time s) b e =
      let t = moment_in b in
      subst (MeansWithin (time s)) (kind_is 7 b e) (same_means (moment_order s t) (moment_less s t) (s ≡ t) (moment_less t s) (time s ≡ time t) (ap time) (moment_means s t))
  within_means (text s) b e =
      let t = bytes_of b in
      subst (MeansWithin (text s)) (kind_is 8 b e) (same_means (slice_cmp nat_cmp s t) (text_less s t) (s ≡ t) (text_less t s) (text s ≡ text t) (ap text) (text_means s t))
  within_means high b e = subst (MeansWithin high) (kind_is 9 b e) refl

  items_means : (us vs : Plains) → MatchOrdering (items_order us vs) (items_less us vs) (us ≡ vs) (items_less vs us)
  items_means no_items no_items = refl
  items_means no_items (item v vs) = tt
  items_means (item u us) no_items = tt
  items_means (item u us) (item v vs) =
      then_means (order u v) (items_order us vs) (less u v) (u ≡ v) (less v u) (items_less us vs) (us ≡ vs) (items_less vs us) (item u us ≡ item v vs) (v ≡ u)
      (means_by u v (within_means u v)) (items_means us vs) (λ e f i. item (e i) (f i)) sym

  pairs_means : (ls ms : Pairs) → MatchOrdering (pairs_order ls ms) (pairs_less ls ms) (ls ≡ ms) (pairs_less ms ls)
  pairs_means no_pairs no_pairs = refl
  pairs_means no_pairs (pair k v ms) = tt
  pairs_means (pair j u ls) no_pairs = tt
  pairs_means (pair j u ls) (pair k v ms) =
      then_means (slice_cmp nat_cmp j k) (ordering_then (order u v) (pairs_order ls ms)) (text_less j k) (j ≡ k) (text_less k j)
      (less u v ⊎ ((u ≡ v) × pairs_less ls ms)) ((u ≡ v) × (ls ≡ ms)) (less v u ⊎ ((v ≡ u) × pairs_less ms ls)) (pair j u ls ≡ pair k v ms) (k ≡ j)
      (text_means j k)
      (then_means (order u v) (pairs_order ls ms) (less u v) (u ≡ v) (less v u) (pairs_less ls ms) (ls ≡ ms) (pairs_less ms ls) ((u ≡ v) × (ls ≡ ms)) (v ≡ u)
      (means_by u v (within_means u v)) (pairs_means ls ms) (λ e f. (e, f)) sym)
      (λ e f i. pair (e i) (f.0 i) (f.1 i)) sym

pub order_means : (a b : Plain) → MatchOrdering (order a b) (less a b) (a ≡ b) (less b a)
order_means a b = means_by a b (within_means a b)

pub order_says : (a b : Plain) (o : Ordering) → o ≡ order a b → MatchOrdering o (less a b) (a ≡ b) (less b a)
order_says a b o e = rw e (order_means a b)
