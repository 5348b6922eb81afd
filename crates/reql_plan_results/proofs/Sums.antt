-- Sums that end at the last count.
use Rattle.std.proofs.Common.{◌≡◌, ◌≤◌, ◌<◌, ℕ, ◌+◌, ◌-◌, ◌^◌, min, arith}
use Rattle.reql_plan_spec.specs.Summed.{sum}

pub sum_full : (a b : ℕ) → 9007199254740992 ≤ a + b → 9007199254740992 ≡ sum a b
sum_full a b h = grind (arith, h)

pub sum_small : (a b : ℕ) → a + b < 9007199254740992 → a + b ≡ sum a b
sum_small a b h = grind (arith, h)

pub ruleset sums = (sum_full, sum_small)
