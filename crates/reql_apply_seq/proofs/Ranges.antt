-- Numbers from one up to another, one after the other.
use Rattle.std.proofs.Common.{◌≡◌, refl, sym, ap, ◌∙◌, arith, suc, List, [], ◌∷◌, ◌++◌, append_assoc, ℤ, pos, ◌+ℤ◌, ◌<ℤ◌}
use Rattle.std.proofs.lemmas.Int.{ints}
use Rattle.reql_datum.specs.Plain.{Plain, number}
use Rattle.reql_rules.specs.Sizes.{distance, numbers}

pub distance_step : (n to : ℤ) → n <ℤ to → distance n to ≡ suc (distance (n +ℤ pos 1) to)
distance_step n to h = grind (arith, ints)

pub numbers_step : (n to : ℤ) → n <ℤ to → numbers n (distance n to) ≡ number n ∷ numbers (n +ℤ pos 1) (distance (n +ℤ pos 1) to)
numbers_step n to h = rw (distance_step n to h) refl

-- one number more
pub numbers_on : (n m to : ℤ) (all items after : List Plain) → n <ℤ to → m ≡ n +ℤ pos 1 → after ≡ items ++ number n ∷ []
    → all ≡ items ++ numbers n (distance n to) → all ≡ after ++ numbers m (distance m to)
numbers_on n m to all items after h e a invariant =
    rw (e, a) (invariant ∙ ap (λ vs. items ++ vs) (numbers_step n to h) ∙ sym (append_assoc items (number n ∷ []) (numbers (n +ℤ pos 1) (distance (n +ℤ pos 1) to))))
