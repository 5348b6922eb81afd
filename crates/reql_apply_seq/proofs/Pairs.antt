-- Two arguments.
use Rattle.std.proofs.Common.{◌≡◌, ◌∙◌, sym, ap, arith, ◌<◌, ◌≤◌, List, [], ◌∷◌, length, get_or}

pub two_of : {A : Type 0} (xs : List A) (a b : A) → 2 ≤ length xs → length xs < 3 → a ≡ get_or xs 0 a → b ≡ get_or xs 1 b → xs ≡ a ∷ b ∷ []
two_of [] a b some few is also = absurd (omega arith)
two_of (x ∷ []) a b some few is also = absurd (omega arith)
two_of (x ∷ y ∷ []) a b some few is also = ap (λ u. u ∷ y ∷ []) (sym is) ∙ ap (λ u. a ∷ u ∷ []) (sym also)
two_of (x ∷ y ∷ z ∷ zs) a b some few is also = absurd (omega arith)
