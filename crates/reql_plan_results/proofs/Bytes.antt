-- A number of bytes fits as many.
use Rattle.std.proofs.Common.{◌≡◌, ◌<◌, ◌≤◌, ℕ, ◌+◌, ◌*◌, ◌^◌, List, [], ◌∷◌, ◌++◌, take, drop, set, length, get_or, arith, refl, ap}
use Rattle.std.proofs.Math.Nat.{pow-le-pow_right}
use Rattle.std.proofs.lemmas.Grind.{pow_more}
use Rattle.std.proofs.lemmas.List.{drop_all, drop_more}
use Rattle.reql_plan_spec.specs.Keys.{number_from}

-- one more byte
pub number_step : (n : ℕ) (bs : List ℕ) (i : ℕ) → i < length bs → number_from n (drop i bs) ≡ number_from (n * 256 + get_or bs i 0) (drop (i + 1) bs)
number_step n bs i h = ap (number_from n) (drop_more bs i 0 h)

-- and none more
pub number_end : (n : ℕ) (bs : List ℕ) (i : ℕ) → length bs ≤ i → number_from n (drop i bs) ≡ n
number_end n bs i h = ap (number_from n) (drop_all i bs h)

number_fits : (n p b : ℕ) → n < p → b < 256 → n * 256 + b < p * 256
number_fits n p b h k = omega (arith, h, k)

pub number_grown : (n i b : ℕ) → n < 256 ^ i → b < 256 → n * 256 + b < 256 ^ (i + 1)
number_grown n i b h k = rw (pow_more 256 i) (number_fits n (256 ^ i) b h k)

-- so many bytes fit a number of 128 bits
pub number_room : (n i b : ℕ) → n < 256 ^ i → i < 16 → b < 256 → n * 256 + b < 2 ^ 128
number_room n i b h below k =
    let grown : n * 256 + b < 256 ^ (i + 1) = number_grown n i b h k in
    let most : 256 ^ (i + 1) ≤ 256 ^ 16 = pow-le-pow_right {n = 256} (omega arith) {i = i + 1} {j = 16} (omega (arith, below)) in
    omega (arith, grown, most)

pub number_times : (n i : ℕ) → n < 256 ^ i → i < 16 → n * 256 < 2 ^ 128
number_times n i h below =
    let room : n * 256 + 0 < 2 ^ 128 = number_room n i 0 h below (omega arith) in
    omega (arith, room)

-- two bytes in their places
pub marked : (bs : List ℕ) (x y : ℕ) → length bs ≡ 16 → set (set bs 6 x) 8 y ≡ take 6 bs ++ x ∷ get_or bs 7 0 ∷ y ∷ drop 9 bs
marked [] x y h = cc
marked (a ∷ []) x y h = cc
marked (a ∷ b ∷ []) x y h = cc
marked (a ∷ b ∷ c ∷ []) x y h = cc
marked (a ∷ b ∷ c ∷ d ∷ []) x y h = cc
marked (a ∷ b ∷ c ∷ d ∷ e ∷ []) x y h = cc
marked (a ∷ b ∷ c ∷ d ∷ e ∷ f ∷ []) x y h = cc
marked (a ∷ b ∷ c ∷ d ∷ e ∷ f ∷ g ∷ []) x y h = cc
marked (a ∷ b ∷ c ∷ d ∷ e ∷ f ∷ g ∷ i ∷ []) x y h = cc
marked (a ∷ b ∷ c ∷ d ∷ e ∷ f ∷ g ∷ i ∷ j ∷ rest) x y h = refl

pub ruleset bytes = (number_step, number_end, number_grown, number_room, number_times, marked)
