-- Two lists beside one another end with the shorter.
use Rattle.std.proofs.Common.{◌≡◌, refl, List, [], ◌∷◌}
use Rattle.std.specs.List.{zip}

pub beside_none : {A B : Type 0} (xs : List A) → zip {X = B} xs [] ≡ []
beside_none [] = refl
beside_none (x ∷ xs) = refl
