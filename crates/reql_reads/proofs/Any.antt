-- Whether there is any in two lists that are joined.
use Rattle.std.proofs.Common.{◌≡◌, ℕ, List, [], ◌∷◌, ◌++◌, Bool, true, false, refl}
use Rattle.reql_plan_spec.specs.Reads.{is_any}

pub any_first : (xs ys : List ℕ) → is_any xs ≡ true → is_any (xs ++ ys) ≡ true
any_first [] ys h = cc
any_first (x ∷ xs) ys h = refl

pub any_later : (xs ys : List ℕ) → is_any xs ≡ false → is_any (xs ++ ys) ≡ is_any ys
any_later [] ys h = refl
any_later (x ∷ xs) ys h = cc

pub ruleset any = (any_first, any_later)
