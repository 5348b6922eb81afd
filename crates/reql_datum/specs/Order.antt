-- The order of plain values.
use Rattle.std.specs.Prelude.{◌≡◌, ℕ, ◌<ℤ◌, ◌<◌, ◌⊎◌, ⊤, Bool, true, false, List, [], ◌∷◌}
use Rattle.std.specs.declared.cmp.Ordering.{Ordering}
use Rattle.std.specs.declared.cmp.Ordering.TheVariants.{Less, Equal, Greater}
use Rattle.std.specs.Ordering.{nat_cmp, int_cmp, ordering_then}
use Rattle.std.specs.Cmp.Lexicographic.{slice_cmp}
use Rattle.reql_datum.specs.Zone.{moment_order, moment_less}
use Rattle.reql_datum.specs.Plain.{Plain, low, array, boolean, null, number, object, binary, time, text, high, Plains, no_items, item, Pairs, no_pairs, pair}

-- the kinds rise in this order
abbrev pub rank : Plain → ℕ
rank low = 0
rank (array vs) = 1
rank (boolean b) = 2
rank null = 3
rank (number n) = 4
rank (object ms) = 5
rank (binary s) = 6
rank (time t) = 7
rank (text s) = 8
rank high = 9

-- a text comes before another by its first byte that differs, or as a proper prefix
abbrev pub text_less : List ℕ → List ℕ → Type 0
text_less [] [] = ⊥
text_less [] (y ∷ ys) = ⊤
text_less (x ∷ xs) [] = ⊥
text_less (x ∷ xs) (y ∷ ys) = (x < y) ⊎ ((x ≡ y) × text_less xs ys)

-- first by the kinds, and of one kind as it says
abbrev pub kinds_less : Plain → Plain → Type 0 → Type 0
kinds_less a b within = (rank a < rank b) ⊎ ((rank a ≡ rank b) × within)

-- which of two plain values of one kind comes first
abbrev mutual
  pub less_within : Plain → Plain → Type 0
  less_within (array us) (array vs) = items_less us vs
  less_within (boolean a) (boolean b) = (a ≡ false) × (b ≡ true)
  less_within (number m) (number n) = m <ℤ n
  less_within (object ms) (object ns) = pairs_less ms ns
  less_within (binary s) (binary t) = text_less s t
  less_within (time s) (time t) = moment_less s t
  less_within (text s) (text t) = text_less s t
  less_within a b = ⊥

  pub items_less : Plains → Plains → Type 0
  items_less no_items no_items = ⊥
  items_less no_items (item v vs) = ⊤
  items_less (item u us) no_items = ⊥
  items_less (item u us) (item v vs) = kinds_less u v (less_within u v) ⊎ ((u ≡ v) × items_less us vs)

  pub pairs_less : Pairs → Pairs → Type 0
  pairs_less no_pairs no_pairs = ⊥
  pairs_less no_pairs (pair k v ms) = ⊤
  pairs_less (pair j u ls) no_pairs = ⊥
  pairs_less (pair j u ls) (pair k v ms) = text_less j k ⊎ ((j ≡ k) × (kinds_less u v (less_within u v) ⊎ ((u ≡ v) × pairs_less ls ms)))

-- which of two plain values comes first
abbrev pub less : Plain → Plain → Type 0
less a b = kinds_less a b (less_within a b)

abbrev pub bool_order : Bool → Bool → Ordering
bool_order false false = Equal
bool_order false true = Less
bool_order true false = Greater
bool_order true true = Equal

-- the same order as an answer
abbrev pub kinds_order : Plain → Plain → Ordering → Ordering
kinds_order a b within = ordering_then (nat_cmp (rank a) (rank b)) within

abbrev mutual
  pub order_within : Plain → Plain → Ordering
  order_within (array us) (array vs) = items_order us vs
  order_within (boolean a) (boolean b) = bool_order a b
  order_within (number m) (number n) = int_cmp m n
  order_within (object ms) (object ns) = pairs_order ms ns
  order_within (binary s) (binary t) = slice_cmp nat_cmp s t
  order_within (time s) (time t) = moment_order s t
  order_within (text s) (text t) = slice_cmp nat_cmp s t
  order_within a b = Equal

  pub items_order : Plains → Plains → Ordering
  items_order no_items no_items = Equal
  items_order no_items (item v vs) = Less
  items_order (item u us) no_items = Greater
  items_order (item u us) (item v vs) = ordering_then (kinds_order u v (order_within u v)) (items_order us vs)

  pub pairs_order : Pairs → Pairs → Ordering
  pairs_order no_pairs no_pairs = Equal
  pairs_order no_pairs (pair k v ms) = Less
  pairs_order (pair j u ls) no_pairs = Greater
  pairs_order (pair j u ls) (pair k v ms) =
      ordering_then (slice_cmp nat_cmp j k) (ordering_then (kinds_order u v (order_within u v)) (pairs_order ls ms))

abbrev pub order : Plain → Plain → Ordering
order a b = kinds_order a b (order_within a b)
