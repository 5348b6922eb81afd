-- A list of plain values, and one of pairs, as they stand in a plain value, and back.
use Rattle.std.proofs.Common.{◌≡◌, ℕ, List, [], ◌∷◌, refl, ap}
use Rattle.reql_datum.specs.Plain.{Plain, Plains, no_items, item, Pairs, no_pairs, pair, items_of, pairs_of, listed, members}

pub listed_back : (vs : List Plain) → listed (items_of vs) ≡ vs
listed_back [] = refl
listed_back (v ∷ vs) = ap (λ us. v ∷ us) (listed_back vs)

pub members_back : (ms : List (List ℕ × Plain)) → members (pairs_of ms) ≡ ms
members_back [] = refl
members_back (m ∷ ms) = ap (λ ls. m ∷ ls) (members_back ms)

pub items_back : (vs : Plains) → items_of (listed vs) ≡ vs
items_back no_items = refl
items_back (item v vs) = ap (item v) (items_back vs)

pub pairs_back : (ms : Pairs) → pairs_of (members ms) ≡ ms
pairs_back no_pairs = refl
pairs_back (pair k v ms) = ap (pair k v) (pairs_back ms)

pub ruleset back = (listed_back, members_back, items_back, pairs_back)
