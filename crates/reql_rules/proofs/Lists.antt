-- Lists and members in plain values, there and back.
use Rattle.std.proofs.Common.{◌≡◌, refl, ap, List, [], ◌∷◌}
use Rattle.reql_datum.specs.Plain.{Plain, items_of, pairs_of, listed, members}
use Rattle.reql_rules.specs.Lists.{Bytes}

pub listed_again : (vs : List Plain) → listed (items_of vs) ≡ vs
listed_again [] = refl
listed_again (v ∷ vs) = ap (λ us. v ∷ us) (listed_again vs)

pub members_again : (ms : List (Bytes × Plain)) → members (pairs_of ms) ≡ ms
members_again [] = refl
members_again (m ∷ ms) = ap (λ ns. m ∷ ns) (members_again ms)
