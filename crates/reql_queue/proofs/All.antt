-- Taking all there is.
use Rattle.std.proofs.Common.{◌≡◌, ℕ, zero, suc, ◌≤◌, List, [], ◌∷◌, length, take, drop, refl, ap, arith}

pub all_taken : {X : Type 0} (n : ℕ) (xs : List X) → length xs ≤ n → take n xs ≡ xs
all_taken zero [] h = refl
all_taken zero (x ∷ xs) h = absurd (omega arith)
all_taken (suc n) [] h = refl
all_taken (suc n) (x ∷ xs) h = ap (λ t. x ∷ t) (all_taken n xs (omega arith))

pub none_left : {X : Type 0} (n : ℕ) (xs : List X) → length xs ≤ n → drop n xs ≡ []
none_left zero [] h = refl
none_left zero (x ∷ xs) h = absurd (omega arith)
none_left (suc n) [] h = refl
none_left (suc n) (x ∷ xs) h = none_left n xs (omega arith)
