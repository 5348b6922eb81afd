-- Parts of a list, from a place on.
use Rattle.std.proofs.Common.{◌≡◌, ◌≤◌, refl, sym, ap, ◌∙◌, arith, ℕ, zero, suc, ◌+◌, List, [], ◌∷◌, take, drop, length, length-drop, take_all, slice_get, Ok}
use Rattle.reql_datum.specs.Answer.{Answer}

pub first_of_part : {A : Type 0} (place : ℕ) (xs : List A) → slice_get (take 1 (drop place xs)) 0 ≡ slice_get xs place
first_of_part zero [] = refl
first_of_part zero (x ∷ xs) = refl
first_of_part (suc place) [] = refl
first_of_part (suc place) (x ∷ xs) = first_of_part place xs

-- the element at a place of a rest
pub at_rest : {A : Type 0} (passed place : ℕ) (xs : List A) → slice_get (drop passed xs) place ≡ slice_get xs (passed + place)
at_rest zero place xs = let on : place ≡ 0 + place = omega arith in ap (slice_get xs) on
at_rest (suc passed) place [] = refl
at_rest (suc passed) place (x ∷ xs) = let on : suc (passed + place) ≡ suc passed + place = omega arith in at_rest passed place xs ∙ ap (slice_get (x ∷ xs)) on

abbrev pub Same : {B : Type 0} → Answer B → Answer B → Type 0
Same a b = a ≡ b

-- as many as there are, from a place on
pub rest_from : {A : Type 0} (xs ys : List A) (from n : ℕ) → Same (Ok (length xs)) (Ok n) → Same (Ok (take n (drop from xs))) (Ok ys)
    → Same (Ok (drop from xs)) (Ok ys)
rest_from xs ys from n e h =
    let size : length xs ≡ n = cc in
    let within : length (drop from xs) ≤ n = omega (arith, length-drop from xs) in
    ap Ok (sym (take_all n (drop from xs) within)) ∙ h
