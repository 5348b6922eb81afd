-- A number among others.
use Rattle.std.proofs.Common.{◌≡◌, ◌<◌, ◌≤◌, ℕ, List, ◌∷◌, nat_lt, nat_eq, if◌then◌else◌, true, false, refl, ap, arith}
use Rattle.std.proofs.lemmas.Bool.Decides.{nat_tests}
use Rattle.std.proofs.lemmas.List.{drop_more}
use Rattle.reql_plan_spec.specs.Reads.{rising, with_slot}

-- one that is above the first goes on
pub slot_on : (n k : ℕ) (ks : List ℕ) → k < n → with_slot n (k ∷ ks) ≡ k ∷ with_slot n ks
slot_on n k ks h = grind (arith, nat_tests, h)

-- one that is below it stands before it, and one that is the same is there
pub slot_before : (n k : ℕ) (ks : List ℕ) → n < k → with_slot n (k ∷ ks) ≡ n ∷ k ∷ ks
slot_before n k ks h = grind (arith, nat_tests, h)

pub slot_there : (n k : ℕ) (ks : List ℕ) → n ≡ k → with_slot n (k ∷ ks) ≡ k ∷ ks
slot_there n k ks h = grind (arith, nat_tests, h)

pub ruleset inserted = (drop_more, slot_on, slot_before, slot_there)
