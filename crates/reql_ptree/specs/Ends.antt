-- The ends of a range as places between keys, each of which may be missing, and the direction in which it is given.
use Rattle.std.specs.Prelude.{◌≡◌, ℕ, take, drop, List, reverse, map, Bool, true, false, ◌&&◌, not, Option, Some, None}
use Rattle.std.specs.List.{AllByRecursion, filter}
use Rattle.reql_datum.specs.Plain.{Plain}
use Rattle.reql_datum.specs.Order.{order}
use Rattle.reql_datum.specs.View.{plain}
use Rattle.reql_ptree.specs.Next.{is_behind}
use Rattle.reql_ptree.specs.Tall.{digits}
use Rattle.reql_ptree.specs.declared.range.Cut.{Cut}

abbrev pub cut_seen : Cut → Plain × Bool
cut_seen c = (plain c.key.now, c.at)

-- whether a key lies past the low end, and before the high end
abbrev pub is_past : Option (Plain × Bool) → Plain → Bool
is_past None k = true
is_past (Some c) k = not (is_behind c.1 (order c.0 k))

abbrev pub is_before : Option (Plain × Bool) → Plain → Bool
is_before None k = true
is_before (Some c) k = is_behind c.1 (order c.0 k)

abbrev pub within : Option (Plain × Bool) → Option (Plain × Bool) → Plain × Plain → Bool
within low high m = is_past low m.0 && is_before high m.0

-- the pairs between two ends
abbrev pub between : Option (Plain × Bool) → Option (Plain × Bool) → List (Plain × Plain) → List (Plain × Plain)
between low high ms = filter (within low high) ms

-- values in the order of their keys, or against it
abbrev pub along : Bool → List Plain → List Plain
along false vs = vs
along true vs = reverse vs

abbrev pub given : Bool → List (Plain × Plain) → List Plain
given falling ms = along falling (map (λ m. m.1) ms)

-- the end at which a direction begins, and the other
abbrev pub start_of : Bool → Option (Plain × Bool) → Option (Plain × Bool) → Option (Plain × Bool)
start_of false low high = low
start_of true low high = high

abbrev pub end_of : Bool → Option (Plain × Bool) → Option (Plain × Bool) → Option (Plain × Bool)
end_of false low high = high
end_of true low high = low

-- the pairs before place i are not past the low end, and those from there on are
abbrev pub IsFrom : Option (Plain × Bool) → List (Plain × Plain) → ℕ → Type 0
IsFrom low ms i = AllByRecursion (λ m. is_past low m.0 ≡ false) (take i ms) × AllByRecursion (λ m. is_past low m.0 ≡ true) (drop i ms)

-- those before place i are before the high end, and those from there on are not
abbrev pub IsTo : Option (Plain × Bool) → List (Plain × Plain) → ℕ → Type 0
IsTo high ms i = AllByRecursion (λ m. is_before high m.0 ≡ true) (take i ms) × AllByRecursion (λ m. is_before high m.0 ≡ false) (drop i ms)

-- how many steps a search for an end takes among n pairs
abbrev pub search_for : Option (Plain × Bool) → ℕ → ℕ
search_for None n = 0
search_for (Some c) n = digits n
