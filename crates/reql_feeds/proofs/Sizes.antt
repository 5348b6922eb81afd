-- The size of a queue.
use Rattle.std.proofs.Common.{◌≡◌, ℕ, cond, Bool, true, false, nat_eq, refl, arith}
use Rattle.std.specs.Prelude.{max}
use Rattle.reql_feeds.specs.Keeps.{at_least_one}

one_at : (b : Bool) (n : ℕ) → nat_eq n 0 ≡ b → max n 1 ≡ cond b 1 n
one_at true n e = let z : n ≡ 0 = grind (arith, e) in rw z refl
one_at false n e = grind (arith, e)

-- a size of 0 counts as 1
pub one_counts : (n : ℕ) → max n 1 ≡ at_least_one n
one_counts n = one_at (nat_eq n 0) n refl
