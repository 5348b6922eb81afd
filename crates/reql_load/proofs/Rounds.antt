-- A list in parts, and the rounds of a session one after another.
use Rattle.std.proofs.Common.{◌≡◌, ℕ, zero, suc, ◌+◌, ◌-◌, ◌<◌, ◌≤◌, List, [], ◌∷◌, ◌++◌, length, take, drop, flat_map, Bool, true, false, ◌==◌, refl, sym, ap, ◌∙◌, arith, length-drop, lit<}
use Rattle.reql_load.specs.Script.{per_round, parts, parts_within, round, rounds}
use Rattle.reql_load.specs.Writing.{Written, with_all}
use Rattle.reql_load.proofs.Writing.{with_all_joined}

same_within : (m k n : ℕ) (xs : List ℕ) → 0 < n → length xs ≤ m → length xs ≤ k → parts_within m n xs ≡ parts_within k n xs
same_within zero zero n xs some a b = refl
same_within zero (suc k) n [] some a b = refl
same_within zero (suc k) n (x ∷ xs) some a b = absurd (omega arith)
same_within (suc m) zero n [] some a b = refl
same_within (suc m) zero n (x ∷ xs) some a b = absurd (omega arith)
same_within (suc m) (suc k) n [] some a b = refl
same_within (suc m) (suc k) n (x ∷ xs) some a b =
    let less = length-drop n (x ∷ xs) in
    ap (λ (t : List (List ℕ)). take n (x ∷ xs) ∷ t) (same_within m k n (drop n (x ∷ xs)) some (omega arith) (omega arith))

pub first_part : (n : ℕ) (xs : List ℕ) → 0 < n → 0 < length xs → parts n xs ≡ take n xs ∷ parts n (drop n xs)
first_part n [] some there = absurd (omega arith)
first_part n (x ∷ xs) some there =
    let less = length-drop n (x ∷ xs) in
    ap (λ (t : List (List ℕ)). take n (x ∷ xs) ∷ t) (same_within (length xs) (length (drop n (x ∷ xs))) n (drop n (x ∷ xs)) some (omega arith) (omega arith))

some_per_round : 0 < per_round
unfolding per_round
some_per_round = lit< tt

-- a list that is not empty
pub some_left : (docs : List ℕ) (b : Bool) → b ≡ (length docs == 0) → b ≡ false → 0 < length docs
some_left [] b is off = absurd (let f : true ≡ false = sym is ∙ off in cc)
some_left (x ∷ xs) b is off = omega arith

-- one round more
pub rounds_on : (seed : ℕ) (w v all : Written) (docs first after : List ℕ) → 0 < length docs → first ≡ take per_round docs → after ≡ drop per_round docs → v ≡ with_all w (round seed first)
    → with_all w (rounds seed docs) ≡ all → with_all v (rounds seed after) ≡ all
rounds_on seed w v all docs first after there front back now so_far =
    let parted : rounds seed docs ≡ round seed (take per_round docs) ++ rounds seed (drop per_round docs) = ap (flat_map (round seed)) (first_part per_round docs some_per_round there) in
    let joined : with_all w (rounds seed docs) ≡ with_all (with_all w (round seed (take per_round docs))) (rounds seed (drop per_round docs)) = ap (with_all w) parted ∙ with_all_joined w (round seed (take per_round docs)) (rounds seed (drop per_round docs)) in
    rw (now, front, back) (sym joined ∙ so_far)
