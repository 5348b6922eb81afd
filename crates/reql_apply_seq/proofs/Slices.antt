-- Parts of sequences.
use Rattle.std.proofs.Common.{◌≡◌, ◌≤◌, refl, sym, ap, ◌∙◌, arith, rules, ℕ, zero, suc, ◌+◌, ◌-◌, min, Bool, List, [], ◌∷◌, take, drop, length, length-drop, take_all, nat_eq, slice_range, Ok}
use native.Mathlib.Numerals.{unary_clauses}
use Rattle.reql_datum.specs.Answer.{Answer}

abbrev pub Same : {B : Type 0} → Answer B → Answer B → Type 0
Same a b = a ≡ b

module _ {A : Type 0} where
  take_none : (n : ℕ) → take {A = A} n [] ≡ []
  take_none zero = refl
  take_none (suc n) = refl

  drop_none : (n : ℕ) → drop {A = A} n [] ≡ []
  drop_none zero = refl
  drop_none (suc n) = refl

  pub nothing_of : (most from : ℕ) → take most (drop {A = A} from []) ≡ []
  nothing_of most from = ap (take most) (drop_none from) ∙ take_none most

  pub passed_both : (xs : List A) (passed from : ℕ) → drop from (drop passed xs) ≡ drop (passed + from) xs
  passed_both xs zero from = let on : from ≡ 0 + from = omega arith in ap (λ k. drop k xs) on
  passed_both [] (suc passed) from = drop_none from ∙ sym (drop_none (suc passed + from))
  passed_both (x ∷ xs) (suc passed) from =
      let on : suc (passed + from) ≡ suc passed + from = omega arith in
      passed_both xs passed from ∙ ap (λ k. drop k (x ∷ xs)) on

  take_within : (xs : List A) (most : ℕ) → take (min (length xs) most) xs ≡ take most xs
  take_within [] most = take_none (min 0 most) ∙ sym (take_none most)
  take_within (x ∷ xs) zero = simp unary_clauses refl
  take_within (x ∷ xs) (suc most) = simp unary_clauses (ap (λ ys. x ∷ ys) (take_within xs most))

  drop_within : (xs : List A) (from : ℕ) → drop (min (length xs) from) xs ≡ drop from xs
  drop_within [] from = drop_none (min 0 from) ∙ sym (drop_none from)
  drop_within (x ∷ xs) zero = simp unary_clauses refl
  drop_within (x ∷ xs) (suc from) = simp unary_clauses (drop_within xs from)

  -- a part is a cut between places within the list
  pub part_cut : (xs : List A) (from most : ℕ)
      → slice_range xs (min (length xs) from) (min (length xs) from + min (length xs - min (length xs) from) most) ≡ take most (drop from xs)
  part_cut xs from most =
      let start : ℕ = min (length xs) from in
      let room : (start + min (length xs - start) most) - start ≡ min (length (drop start xs)) most = omega (arith, length-drop start xs) in
      ap (λ k. take k (drop start xs)) room ∙ take_within (drop start xs) most ∙ ap (take most) (drop_within xs from)

  -- as many as there are, from a place on
  pub rest_from : (xs ys : List A) (from n : ℕ) → Same (Ok (length xs)) (Ok n) → Same (Ok (take n (drop from xs))) (Ok ys)
      → Same (Ok (drop from xs)) (Ok ys)
  rest_from xs ys from n e h =
      let size : length xs ≡ n = cc in
      let within : length (drop from xs) ≤ n = omega (arith, length-drop from xs) in
      ap Ok (sym (take_all n (drop from xs) within)) ∙ h

  none_from : (xs : List A) → nat_eq (length (take 1 (drop 0 xs))) 0 ≡ nat_eq (length xs) 0
  none_from [] = refl
  none_from (x ∷ xs) = search rules

  -- where the first is missing there is none
  pub first_is_missing : (xs ys : List A) (b : Bool) → Same (Ok (take 1 (drop 0 xs))) (Ok ys) → b ≡ nat_eq (length ys) 0 → Same (Ok (nat_eq (length xs) 0)) (Ok b)
  first_is_missing xs ys b h e =
      let same : take 1 (drop 0 xs) ≡ ys = cc in
      ap Ok (sym (none_from xs) ∙ ap (λ zs. nat_eq (length zs) 0) same ∙ sym e)

  -- a part of a rest, and the rest of a rest
  pub part_of_rest : (xs : List A) (passed from most : ℕ) → take most (drop from (drop passed xs)) ≡ take most (drop (passed + from) xs)
  part_of_rest xs passed from most = ap (take most) (passed_both xs passed from)
