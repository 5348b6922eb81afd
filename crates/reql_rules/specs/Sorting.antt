-- ORDER_BY by keys, and DISTINCT (ReQL API reference: orderBy, distinct).
use Rattle.std.specs.Prelude.{ℕ, ◌+◌, List, [], ◌∷◌, map, Bool, true, false, if◌then◌else◌, Option, None, Ok}
use Rattle.std.specs.declared.cmp.Ordering.{Ordering}
use Rattle.std.specs.declared.cmp.Ordering.TheVariants.{Equal}
use Rattle.std.specs.Option.{option_cmp}
use Rattle.std.specs.Ordering.{is_lt, ordering_then}
use Rattle.reql_datum.specs.Answer.{Answer, ◌>>=◌}
use Rattle.reql_datum.specs.Order.{order}
use Rattle.reql_datum.specs.Plain.{Plain}
use Rattle.reql_rules.specs.Lists.{each}
use Rattle.reql_rules.specs.Types.{same}
use Rattle.reql_rules.specs.Mapping.{if_any}

-- a stable sort: each in front of the first that isn't below it
module _ {A : Type 0} where
  abbrev pub into_place : (A → A → Ordering) → A → List A → List A
  into_place cmp x [] = x ∷ []
  into_place cmp x (y ∷ ys) = if is_lt (cmp y x) then y ∷ into_place cmp x ys else x ∷ y ∷ ys

  abbrev pub sorted : (A → A → Ordering) → List A → List A
  sorted cmp [] = []
  sorted cmp (x ∷ xs) = into_place cmp x (sorted cmp xs)

-- a key that is missing counts as below all; downwards it is the other way round
abbrev pub key_order : Bool → Option Plain → Option Plain → Ordering
key_order true j k = option_cmp order k j
key_order false j k = option_cmp order j k

abbrev pub first_key : List (Option Plain) → Option Plain
first_key [] = None
first_key (k ∷ ks) = k

abbrev pub other_keys : List (Option Plain) → List (Option Plain)
other_keys [] = []
other_keys (k ∷ ks) = ks

-- by the first key, then by the next, each in its direction
abbrev pub by_keys : List Bool → List (Option Plain) → List (Option Plain) → Ordering
by_keys [] js ks = Equal
by_keys (d ∷ ds) js ks = ordering_then (key_order d (first_key js) (first_key ks)) (by_keys ds (other_keys js) (other_keys ks))

-- an element with its keys
abbrev pub Keyed : Type 0
Keyed = List (Option Plain) × Plain

-- the keys from the i-th on, as many as there are directions
abbrev pub keys_from : (ℕ → Plain → Answer Plain) → ℕ → List Bool → Plain → Answer (List (Option Plain))
keys_from m i [] v = Ok []
keys_from m i (d ∷ ds) v = do
  k ← if_any (m i v)
  ks ← keys_from m (i + 1) ds v
  Ok (k ∷ ks)

abbrev pub with_keys : (ℕ → Plain → Answer Plain) → List Bool → Plain → Answer Keyed
with_keys m down v = do
  ks ← keys_from m 0 down v
  Ok (ks, v)

abbrev pub keyed_order : List Bool → Keyed → Keyed → Ordering
keyed_order down a b = by_keys down a.0 b.0

abbrev pub elements : List Keyed → List Plain
elements es = map (λ e. e.1) es

abbrev pub order_all : (ℕ → Plain → Answer Plain) → List Bool → List Plain → Answer (List Plain)
order_all m down vs = do
  es ← each (with_keys m down) vs
  Ok (elements (sorted (keyed_order down) es))

-- sorted, each once
abbrev pub once_after : Plain → List Plain → List Plain
once_after u [] = []
once_after u (v ∷ vs) = if same u v then once_after u vs else v ∷ once_after v vs

abbrev pub once : List Plain → List Plain
once [] = []
once (v ∷ vs) = v ∷ once_after v vs

abbrev pub distinct : List Plain → List Plain
distinct vs = once (sorted order vs)
