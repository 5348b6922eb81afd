-- The limits on what a term gives: how long arrays are, how deep values nest, how many numbers RANGE gives (ReQL API reference: range; array_limit of run).
use Rattle.std.specs.Prelude.{ℕ, suc, ℤ, pos, ◌+ℤ◌, ◌-ℤ◌, nat_lt, unsigned_abs, int_le, zero, List, [], ◌∷◌, length, Bool, false, if◌then◌else◌, Ok, Err}
use Rattle.reql_datum.specs.Answer.{Answer, ◌>>=◌}
use Rattle.reql_datum.specs.Plain.{Plain, array, number, depth, listed}
use Rattle.reql_rules.specs.Faults.{over_array, over_depth, over_range}

abbrev pub max_depth : ℕ
max_depth = 100

abbrev pub max_range : ℕ
max_range = 1000000

abbrev pub is_long : ℕ → Plain → Bool
is_long limit (array vs) = nat_lt limit (length (listed vs))
is_long limit v = false

abbrev pub short : ℕ → Plain → Answer Plain
short limit v = if is_long limit v then Err (over_array limit) else Ok v

abbrev pub shallow : Plain → Answer Plain
shallow v = if nat_lt max_depth (depth v) then Err over_depth else Ok v

abbrev pub within : ℕ → Plain → Answer Plain
within limit v = do
  d ← short limit v
  shallow d

-- so many numbers from n on
abbrev pub numbers : ℤ → ℕ → List Plain
numbers n zero = []
numbers n (suc k) = number n ∷ numbers (n +ℤ pos 1) k

abbrev pub distance : ℤ → ℤ → ℕ
distance from to = if int_le to from then 0 else unsigned_abs (to -ℤ from)

abbrev pub range : ℤ → ℤ → Answer (List Plain)
range from to = if nat_lt max_range (distance from to) then Err over_range else Ok (numbers from (distance from to))
