-- What sorting, distinct values and groups keep.
use Rattle.std.specs.Prelude.{◌≡◌, List, [], ◌∷◌, map, Bool, Option, Some, None}
use Rattle.std.specs.declared.cmp.Ordering.{Ordering}
use Rattle.std.specs.List.{filter}
use Rattle.std.specs.List.Sorted.{IsSorted, IsStable, IsStrictlySortedBy}
use Rattle.reql_memory.specs.Sorted.{AreRisingBy, find_by}
use Rattle.reql_datum.specs.Order.{order}
use Rattle.reql_datum.specs.Plain.{Plain}
use Rattle.reql_rules.specs.Grouping.{gather}
use Rattle.reql_rules.specs.Lists.{array_of}
use Rattle.reql_rules.specs.Sets.{is_among}
use Rattle.reql_rules.specs.Sorting.{Keyed, keyed_order, sorted, distinct}
use Rattle.reql_rules.specs.Types.{same}

-- none stands below the one before it, and those that tie stand as they stood
abbrev pub IsStablySorted : {A : Type 0} → (A → A → Ordering) → List A → List A → Type 0
IsStablySorted cmp xs ys = IsSorted cmp ys × IsStable cmp xs ys

-- ORDER_BY sorts stably by its keys, and no other list is so sorted
abbrev pub KeysSortStably : Type 0
KeysSortStably = (down : List Bool) (xs : List Keyed)
    → IsStablySorted (keyed_order down) xs (sorted (keyed_order down) xs)
    × ((ys : List Keyed) → IsStablySorted (keyed_order down) xs ys → ys ≡ sorted (keyed_order down) xs)

-- the distinct values rise, and are those of the list
abbrev pub DistinctHoldsEachOnce : Type 0
DistinctHoldsEachOnce = (vs : List Plain) → IsStrictlySortedBy order (distinct vs) × ((v : Plain) → is_among (distinct vs) v ≡ is_among vs v)

-- the elements of one group, in order; no group is empty
abbrev pub of_group : Plain → List (Plain × Plain) → List Plain
of_group g ps = map (λ p. p.1) (filter (λ p. same g p.0) ps)

abbrev pub if_some : List Plain → Option Plain
if_some [] = None
if_some (v ∷ vs) = Some (array_of (v ∷ vs))

-- the groups rise, and each holds its elements in order, each once
abbrev pub GroupsHoldEachOnce : Type 0
GroupsHoldEachOnce = (ps : List (Plain × Plain)) → AreRisingBy order (gather ps) × ((g : Plain) → find_by order g (gather ps) ≡ if_some (of_group g ps))
