-- The digits of a number in parts.
use Rattle.std.proofs.Common.{◌≡◌, ℕ, zero, suc, ◌+◌, ◌*◌, ◌/◌, ◌%◌, ◌^◌, List, [], ◌∷◌, ◌++◌, refl, ap, sym, ◌∙◌, codes, arith, append_assoc}
use Rattle.std.proofs.Math.Nat.{div-div-eq-div-mul, div-one, mul_comm}
use native.Mathlib.Numerals.{unary_clauses}
use Rattle.reql_rules.specs.Admin.{digit, hex, hyphened}

append_none : {A : Type 0} (xs : List A) → xs ++ [] ≡ xs
append_none [] = refl
append_none (x ∷ xs) = ap (λ ys. x ∷ ys) (append_none xs)

-- the last k digits of a number are those that are left when the others are taken off
pub apart : (j k n : ℕ) → hex (j + k) n ≡ hex j (n / 16 ^ k) ++ hex k n
apart j zero n = simp unary_clauses (rw (append_none (hex j (n / 1)), div-one n) refl)
apart j (suc k) n =
    let parts : n / (16 ^ k * 16) ≡ n / 16 / 16 ^ k = rw (mul_comm (16 ^ k) 16, div-div-eq-div-mul n 16 (16 ^ k)) refl in
    simp unary_clauses (rw (apart j k (n / 16), parts, append_assoc) refl)

five : (x y z u n : ℕ) → hyphened (hex 8 x ++ (hex 4 y ++ (hex 4 z ++ (hex 4 u ++ hex 12 n)))) ≡ hex 8 x ++ (codes "-" ++ (hex 4 y ++ (codes "-" ++ (hex 4 z ++ (codes "-" ++ (hex 4 u ++ (codes "-" ++ hex 12 n)))))))
five x y z u n = refl

in_one : (n : ℕ) → hex 32 n ≡ hex 8 (n / 2 ^ 96) ++ (hex 4 (n / 2 ^ 80) ++ (hex 4 (n / 2 ^ 64) ++ (hex 4 (n / 2 ^ 48) ++ hex 12 n)))
in_one n =
    let a : hex 32 n ≡ hex 8 (n / 2 ^ 96) ++ hex 24 n = apart 8 24 n in
    let b : hex 24 n ≡ hex 4 (n / 2 ^ 80) ++ hex 20 n = apart 4 20 n in
    let c : hex 20 n ≡ hex 4 (n / 2 ^ 64) ++ hex 16 n = apart 4 16 n in
    let d : hex 16 n ≡ hex 4 (n / 2 ^ 48) ++ hex 12 n = apart 4 12 n in
    a ∙ ap (λ s. hex 8 (n / 2 ^ 96) ++ s) (b ∙ ap (λ s. hex 4 (n / 2 ^ 80) ++ s) (c ∙ ap (λ s. hex 4 (n / 2 ^ 64) ++ s) d))

pub in_parts : (n : ℕ) → hyphened (hex 32 n) ≡ hex 8 (n / 2 ^ 96) ++ (codes "-" ++ (hex 4 (n / 2 ^ 80) ++ (codes "-" ++ (hex 4 (n / 2 ^ 64) ++ (codes "-" ++ (hex 4 (n / 2 ^ 48) ++ (codes "-" ++ hex 12 n)))))))
in_parts n = ap hyphened (in_one n) ∙ five (n / 2 ^ 96) (n / 2 ^ 80) (n / 2 ^ 64) (n / 2 ^ 48) n
