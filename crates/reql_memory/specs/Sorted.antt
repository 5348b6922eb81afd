-- A map as the list of its entries by rising key, for any order of keys.
use Rattle.std.specs.Prelude.{◌≡◌, ℕ, zero, suc, List, [], ◌∷◌, Option}
use Rattle.std.specs.declared.cmp.Ordering.{Ordering}
use Rattle.std.specs.declared.cmp.Ordering.TheVariants.{Less, Equal, Greater}
use Rattle.std.specs.BTreeMap.{is_at, insert_entry}
use Rattle.std.specs.List.{AllByRecursion}
use Rattle.std.specs.List.Sorted.{IsStrictlySortedBy}
use Rattle.std.specs.Map.{keys_of, lookup, remove_entry}

module _ {K : Type 0} (cmp : K → K → Ordering) where
  module _ {V : Type 0} where
    -- each key is below the keys after it
    abbrev pub AreRisingBy : List (K × V) → Type 0
    AreRisingBy ms = IsStrictlySortedBy cmp (keys_of ms)

    -- the value at a key
    abbrev pub find_by : K → List (K × V) → Option V
    find_by k ms = lookup (is_at (cmp k)) ms

    -- with v at the key k
    abbrev pub put_by : K → V → List (K × V) → List (K × V)
    put_by k v ms = insert_entry cmp ms k v

    -- with nothing at the key k
    abbrev pub without_by : K → List (K × V) → List (K × V)
    without_by k ms = remove_entry (is_at (cmp k)) ms

  -- the key at place i is k, and those before it are below
  abbrev pub IsHitBy : List K → K → ℕ → Type 0
  IsHitBy [] k i = ⊥
  IsHitBy (l ∷ ls) k zero = cmp k l ≡ Equal
  IsHitBy (l ∷ ls) k (suc i) = (cmp k l ≡ Greater) × IsHitBy ls k i

  -- k would stand at place i: the keys before it are below, and the next is above
  abbrev pub IsGapBy : List K → K → ℕ → Type 0
  IsGapBy [] k zero = Unit {0}
  IsGapBy [] k (suc i) = ⊥
  IsGapBy (l ∷ ls) k zero = cmp k l ≡ Less
  IsGapBy (l ∷ ls) k (suc i) = (cmp k l ≡ Greater) × IsGapBy ls k i

  module _ {V : Type 0} where
    -- k is above each of the keys
    abbrev pub AllBelowBy : K → List (K × V) → Type 0
    AllBelowBy k ms = AllByRecursion (λ x. cmp k x ≡ Greater) (keys_of ms)

    -- k is below the first of the keys, if there is one
    abbrev pub OpensAboveBy : K → List (K × V) → Type 0
    OpensAboveBy k [] = Unit {0}
    OpensAboveBy k (m ∷ ms) = cmp k m.0 ≡ Less

    -- each key of the first is below those of the second
    abbrev pub AreBelowBy : List (K × V) → List (K × V) → Type 0
    AreBelowBy ms ns = AllByRecursion (λ x. AllByRecursion (λ y. cmp x y ≡ Less) (keys_of ns)) (keys_of ms)

    -- the same is found at each key
    abbrev pub FindSameBy : List (K × V) → List (K × V) → Type 0
    FindSameBy ms ns = (k : K) → find_by k ms ≡ find_by k ns
