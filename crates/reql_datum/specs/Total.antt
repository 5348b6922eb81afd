-- The order of plain values is total: each plain value has a key in one rose tree, whose order has one case.
use Rattle.std.proofs.Common.{◌≡◌, ℕ, zero, suc, ◌<◌, ℤ, pos, negsuc, Bool, true, false, List, [], ◌∷◌, Ordering, Less, Equal, Greater, refl, sym, ap, ◌∙◌, subst}
use Rattle.std.specs.Ordering.{nat_cmp, int_cmp, ordering_then, ordering_reverse, on, then_cmp, MatchOrdering}
use Rattle.std.specs.Cmp.{IsTotalOrder}
use Rattle.std.specs.Cmp.Lexicographic.{slice_cmp}
use Rattle.std.proofs.lemmas.Cmp.{int_cmp_total, nat_list_cmp_total, on_total, then_total, ranked}
use Rattle.reql_datum.specs.Plain.{Plain, low, array, boolean, null, number, object, binary, time, text, high, Plains, no_items, item, Pairs, no_pairs, pair}
use Rattle.reql_datum.specs.Zone.{zone_order}
use Rattle.reql_datum.specs.Order.{rank, order, order_within, items_order, pairs_order, bool_order}

mutual
  data Key : Type 0 where
    node : List ℕ × ℤ → Keys → Key

  data Keys : Type 0 where
    no_keys : Keys
    more : Key → Keys → Keys

abbrev Tag : Type 0
Tag = List ℕ × ℤ

abbrev tags : Tag → Tag → Ordering
tags = then_cmp (on (λ t. t.0) (slice_cmp nat_cmp)) (on (λ t. t.1) int_cmp)

tags_total : IsTotalOrder tags
tags_total = then_total (on_total (λ (t : Tag). t.0) nat_list_cmp_total) (on_total (λ (t : Tag). t.1) int_cmp_total)

abbrev mutual
  key_order : Key → Key → Ordering
  key_order (node s us) (node t vs) = ordering_then (tags s t) (keys_order us vs)

  keys_order : Keys → Keys → Ordering
  keys_order no_keys no_keys = Equal
  keys_order no_keys (more v vs) = Less
  keys_order (more u us) no_keys = Greater
  keys_order (more u us) (more v vs) = ordering_then (key_order u v) (keys_order us vs)

-- ---- two answers in a row
then_reverse : (o p : Ordering) → ordering_reverse (ordering_then o p) ≡ ordering_then (ordering_reverse o) (ordering_reverse p)
then_reverse Less p = refl
then_reverse Equal p = refl
then_reverse Greater p = refl

first_equal : (o p : Ordering) → ordering_then o p ≡ Equal → o ≡ Equal
first_equal Less p h = h
first_equal Equal p h = refl
first_equal Greater p h = h

second_equal : (o p : Ordering) → ordering_then o p ≡ Equal → p ≡ Equal
second_equal Less p h = cc
second_equal Equal p h = h
second_equal Greater p h = cc

-- a is x against y, b is y against z, c is x against z
then_trans : (a b c p q r : Ordering) → (a ≡ Less → b ≡ Less → c ≡ Less) → (a ≡ Equal → c ≡ b) → (b ≡ Equal → c ≡ a) → (p ≡ Less → q ≡ Less → r ≡ Less)
    → ordering_then a p ≡ Less → ordering_then b q ≡ Less → ordering_then c r ≡ Less
then_trans Less Less c p q r both left right rest h k = rw (both refl refl)
then_trans Less Equal c p q r both left right rest h k = rw (right refl)
then_trans Equal Less c p q r both left right rest h k = rw (left refl)
then_trans Equal Equal c p q r both left right rest h k = rw (left refl) (rest h k)
then_trans Less Greater c p q r both left right rest h k = cc
then_trans Equal Greater c p q r both left right rest h k = cc
then_trans Greater b c p q r both left right rest h k = cc

-- ---- the keys
mutual
  key_back : (k l : Key) → key_order k l ≡ ordering_reverse (key_order l k)
  key_back (node s us) (node t vs) =
      (λ i. ordering_then (tags_total.antisymm s t i) (keys_back us vs i)) ∙ sym (then_reverse (tags t s) (keys_order vs us))

  keys_back : (us vs : Keys) → keys_order us vs ≡ ordering_reverse (keys_order vs us)
  keys_back no_keys no_keys = refl
  keys_back no_keys (more v vs) = refl
  keys_back (more u us) no_keys = refl
  keys_back (more u us) (more v vs) =
      (λ i. ordering_then (key_back u v i) (keys_back us vs i)) ∙ sym (then_reverse (key_order v u) (keys_order vs us))

mutual
  key_like : (k l m : Key) → key_order k l ≡ Equal → key_order k m ≡ key_order l m
  key_like (node s us) (node t vs) (node r ws) h = λ i.
      ordering_then (tags_total.congr s t r (first_equal (tags s t) (keys_order us vs) h) i) (keys_like us vs ws (second_equal (tags s t) (keys_order us vs) h) i)

  keys_like : (us vs ws : Keys) → keys_order us vs ≡ Equal → keys_order us ws ≡ keys_order vs ws
  keys_like no_keys no_keys ws h = refl
  keys_like no_keys (more v vs) ws h = cc
  keys_like (more u us) no_keys ws h = cc
  keys_like (more u us) (more v vs) no_keys h = refl
  keys_like (more u us) (more v vs) (more w ws) h = λ i.
      ordering_then (key_like u v w (first_equal (key_order u v) (keys_order us vs) h) i) (keys_like us vs ws (second_equal (key_order u v) (keys_order us vs) h) i)

tags_right : (s t r : Tag) → tags t r ≡ Equal → tags s r ≡ tags s t
tags_right s t r h =
    tags_total.antisymm s r ∙ ap ordering_reverse (tags_total.congr r t s (tags_total.antisymm r t ∙ ap ordering_reverse h)) ∙ sym (tags_total.antisymm s t)

key_right : (s t r : Key) → key_order t r ≡ Equal → key_order s r ≡ key_order s t
key_right s t r h = key_back s r ∙ ap ordering_reverse (key_like r t s (key_back r t ∙ ap ordering_reverse h)) ∙ sym (key_back s t)

mutual
  key_trans : (k l m : Key) → key_order k l ≡ Less → key_order l m ≡ Less → key_order k m ≡ Less
  key_trans (node s us) (node t vs) (node r ws) h g =
      then_trans (tags s t) (tags t r) (tags s r) (keys_order us vs) (keys_order vs ws) (keys_order us ws) (tags_total.trans s t r) (tags_total.congr s t r) (tags_right s t r) (keys_trans us vs ws) h g

  keys_trans : (us vs ws : Keys) → keys_order us vs ≡ Less → keys_order vs ws ≡ Less → keys_order us ws ≡ Less
  keys_trans no_keys no_keys ws h g = cc
  keys_trans no_keys (more v vs) no_keys h g = cc
  keys_trans no_keys (more v vs) (more w ws) h g = refl
  keys_trans (more u us) no_keys ws h g = cc
  keys_trans (more u us) (more v vs) no_keys h g = cc
  keys_trans (more u us) (more v vs) (more w ws) h g =
      then_trans (key_order u v) (key_order v w) (key_order u w) (keys_order us vs) (keys_order vs ws) (keys_order us ws) (key_trans u v w) (key_like u v w) (key_right u v w) (keys_trans us vs ws) h g

-- ---- the key of a plain value
abbrev bit : Bool → ℤ
bit false = pos 0
bit true = pos 1

abbrev bytes_key : List ℕ → Key
bytes_key s = node (s, pos 0) no_keys

abbrev zone_key : ℤ → Key
zone_key (pos n) = node (0 ∷ n ∷ [], pos 0) no_keys
zone_key (negsuc n) = node (1 ∷ n ∷ [], pos 0) no_keys

abbrev pub bytes_of : Plain → List ℕ
bytes_of (binary s) = s
bytes_of (text s) = s
bytes_of v = []

abbrev pub number_of : Plain → ℤ
number_of (boolean b) = bit b
number_of (number n) = n
number_of (time t) = t.0
number_of v = pos 0

abbrev top_key : Plain → Keys → Key
top_key v inside = node (rank v ∷ bytes_of v, number_of v) inside

abbrev mutual
  inside : Plain → Keys
  inside (array vs) = items_key vs
  inside (object ms) = pairs_key ms
  inside (time t) = more (zone_key t.1) no_keys
  inside v = no_keys

  items_key : Plains → Keys
  items_key no_items = no_keys
  items_key (item v vs) = more (top_key v (inside v)) (items_key vs)

  pairs_key : Pairs → Keys
  pairs_key no_pairs = no_keys
  pairs_key (pair k v ms) = more (bytes_key k) (more (top_key v (inside v)) (pairs_key ms))

abbrev key : Plain → Key
key v = top_key v (inside v)

then_none : (o : Ordering) → ordering_then o Equal ≡ o
then_none Less = refl
then_none Equal = refl
then_none Greater = refl

none_twice : (o : Ordering) → o ≡ ordering_then (ordering_then o Equal) Equal
none_twice Less = refl
none_twice Equal = refl
none_twice Greater = refl

zone_same : (z y : ℤ) → zone_order z y ≡ ordering_then (key_order (zone_key z) (zone_key y)) Equal
zone_same (pos m) (pos n) = none_twice (nat_cmp m n) ∙ none_twice (ordering_then (ordering_then (nat_cmp m n) Equal) Equal)
zone_same (pos m) (negsuc n) = refl
zone_same (negsuc m) (pos n) = refl
zone_same (negsuc m) (negsuc n) = none_twice (nat_cmp m n) ∙ none_twice (ordering_then (ordering_then (nat_cmp m n) Equal) Equal)

-- ---- what a rank tells: the kind
abbrev pub items_in : Plain → Plains
items_in (array vs) = vs
items_in v = no_items

abbrev pub bool_in : Plain → Bool
bool_in (boolean b) = b
bool_in v = false

abbrev pub pairs_in : Plain → Pairs
pairs_in (object ms) = ms
pairs_in v = no_pairs

abbrev pub moment_in : Plain → ℤ × ℤ
moment_in (time t) = t
moment_in v = (pos 0, pos 0)

abbrev pub of_kind : ℕ → Plain → Plain
of_kind zero v = low
of_kind (suc zero) v = array (items_in v)
of_kind (suc (suc zero)) v = boolean (bool_in v)
of_kind (suc (suc (suc zero))) v = null
of_kind (suc (suc (suc (suc zero)))) v = number (number_of v)
of_kind (suc (suc (suc (suc (suc zero))))) v = object (pairs_in v)
of_kind (suc (suc (suc (suc (suc (suc zero)))))) v = binary (bytes_of v)
of_kind (suc (suc (suc (suc (suc (suc (suc zero))))))) v = time (moment_in v)
of_kind (suc (suc (suc (suc (suc (suc (suc (suc zero)))))))) v = text (bytes_of v)
of_kind (suc (suc (suc (suc (suc (suc (suc (suc (suc n))))))))) v = high

of_own_kind : (v : Plain) → of_kind (rank v) v ≡ v
of_own_kind low = refl
of_own_kind (array vs) = refl
of_own_kind (boolean b) = refl
of_own_kind null = refl
of_own_kind (number n) = refl
of_own_kind (object ms) = refl
of_own_kind (binary s) = refl
of_own_kind (time t) = refl
of_own_kind (text s) = refl
of_own_kind high = refl

pub kind_is : (n : ℕ) (v : Plain) → n ≡ rank v → of_kind n v ≡ v
kind_is n v e = ap (λ m. of_kind m v) e ∙ of_own_kind v

-- ---- the order is that of the keys
bools_same : (a b : Bool) → bool_order a b ≡ ordering_then (int_cmp (bit a) (bit b)) Equal
bools_same false false = refl
bools_same false true = refl
bools_same true false = refl
bools_same true true = refl

equal_nats : (o : Ordering) (m n : ℕ) → o ≡ Equal → MatchOrdering o (m < n) (m ≡ n) (n < m) → m ≡ n
equal_nats Less m n e h = cc
equal_nats Equal m n e h = h
equal_nats Greater m n e h = cc

same_at : (o p q r s : Ordering) → (o ≡ Equal → p ≡ ordering_then (ordering_then q r) s) → ordering_then o p ≡ ordering_then (ordering_then (ordering_then o q) r) s
same_at Less p q r s same = refl
same_at Equal p q r s same = same refl
same_at Greater p q r s same = refl

abbrev SameWithin : Plain → Plain → Type 0
SameWithin a b =
    order_within a b ≡ ordering_then (ordering_then (slice_cmp nat_cmp (bytes_of a) (bytes_of b)) (int_cmp (number_of a) (number_of b))) (keys_order (inside a) (inside b))

same_by : (a b : Plain) → (rank a ≡ rank b → SameWithin a b) → order a b ≡ key_order (key a) (key b)
same_by a b within =
    same_at (nat_cmp (rank a) (rank b)) (order_within a b) (slice_cmp nat_cmp (bytes_of a) (bytes_of b)) (int_cmp (number_of a) (number_of b)) (keys_order (inside a) (inside b))
    (λ e. within (equal_nats (nat_cmp (rank a) (rank b)) (rank a) (rank b) e (ranked (rank a) (rank b) _ refl)))

mutual
  same_within : (a b : Plain) → rank a ≡ rank b → SameWithin a b
  same_within low b e = subst (SameWithin low) (kind_is 0 b e) refl
  same_within (array us) b e = subst (SameWithin (array us)) (kind_is 1 b e) (items_same us (items_in b))
  same_within (boolean c) b e = subst (SameWithin (boolean c)) (kind_is 2 b e) (bools_same c (bool_in b))
  same_within null b e = subst (SameWithin null) (kind_is 3 b e) refl
  same_within (number n) b e = subst (SameWithin (number n)) (kind_is 4 b e) (sym (then_none (int_cmp n (number_of b))))
  same_within (object ms) b e = subst (SameWithin (object ms)) (kind_is 5 b e) (pairs_same ms (pairs_in b))
  same_within (binary s) b e = subst (SameWithin (binary s)) (kind_is 6 b e) (none_twice (slice_cmp nat_cmp s (bytes_of b)))
  same_within (time t) b e =
      subst (SameWithin (time t)) (kind_is 7 b e) (λ i. ordering_then (int_cmp t.0 (moment_in b).0) (zone_same t.1 (moment_in b).1 i))
  same_within (text s) b e = subst (SameWithin (text s)) (kind_is 8 b e) (none_twice (slice_cmp nat_cmp s (bytes_of b)))
  same_within high b e = subst (SameWithin high) (kind_is 9 b e) refl

  items_same : (us vs : Plains) → items_order us vs ≡ keys_order (items_key us) (items_key vs)
  items_same no_items no_items = refl
  items_same no_items (item v vs) = refl
  items_same (item u us) no_items = refl
  items_same (item u us) (item v vs) = λ i. ordering_then (same_by u v (same_within u v) i) (items_same us vs i)

  pairs_same : (ls ms : Pairs) → pairs_order ls ms ≡ keys_order (pairs_key ls) (pairs_key ms)
  pairs_same no_pairs no_pairs = refl
  pairs_same no_pairs (pair k v ms) = refl
  pairs_same (pair j u ls) no_pairs = refl
  pairs_same (pair j u ls) (pair k v ms) = λ i.
      ordering_then (none_twice (slice_cmp nat_cmp j k) i) (ordering_then (same_by u v (same_within u v) i) (pairs_same ls ms i))

same : (a b : Plain) → order a b ≡ key_order (key a) (key b)
same a b = same_by a b (same_within a b)

pub order_total : IsTotalOrder order
order_total = record {
  antisymm = λ a b. same a b ∙ key_back (key a) (key b) ∙ ap ordering_reverse (sym (same b a));
  trans = λ a b c h g. same a c ∙ key_trans (key a) (key b) (key c) (sym (same a b) ∙ h) (sym (same b c) ∙ g);
  congr = λ a b c h. same a c ∙ key_like (key a) (key b) (key c) (sym (same a b) ∙ h) ∙ sym (same b c);
}
