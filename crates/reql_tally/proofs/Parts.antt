-- What stands at a place of two parts.
use Rattle.std.proofs.Common.{◌≡◌, ◌≤◌, ◌<◌, ℕ, ◌+◌, ◌-◌, List, [], ◌∷◌, ◌++◌, length, drop, Option, Some, None, sym, ap, ◌∙◌, arith}
use Rattle.std.specs.Borrow.{Bor}
use Rattle.std.specs.Prelude.{MatchOption}
use Rattle.std.proofs.lemmas.List.{drop-append-le, length-drop}
use Rattle.std.proofs.Math.Seq.{drop-append-add}

module _ {A : Type 0} where
  -- what a look at a place of a list finds
  abbrev Found : ℕ → List A → Option (Bor A) → Type 0
  Found p xs o = MatchOption o (drop p xs ≡ []) (λ e. drop p xs ≡ e.now ∷ drop (p + 1) xs)

  none_left : (xs : List A) (p : ℕ) → p < length xs → drop p xs ≡ [] → ⊥
  none_left xs p less none =
      let few : length xs - p ≡ 0 = sym (length-drop p xs) ∙ ap length none in
      omega (arith, less, few)

  pub in_first : (xs ys : List A) (p : ℕ) (o : Option (Bor A)) → p < length xs → Found p xs o → Found p (xs ++ ys) o
  in_first xs ys p None less h = absurd (none_left xs p less h)
  in_first xs ys p (Some e) less h =
      drop-append-le p xs ys (omega (arith, less)) ∙ ap (λ z. z ++ ys) h ∙ sym (ap (λ z. e.now ∷ z) (drop-append-le (p + 1) xs ys (omega (arith, less))))

  beyond : (xs ys : List A) (p : ℕ) → length xs ≤ p → drop p (xs ++ ys) ≡ drop (p - length xs) ys
  beyond xs ys p le =
      let e : p ≡ length xs + (p - length xs) = omega (arith, le) in
      ap (λ n. drop n (xs ++ ys)) e ∙ drop-append-add xs ys (p - length xs)

  pub in_second : (xs ys : List A) (p : ℕ) (o : Option (Bor A)) → length xs ≤ p → Found (p - length xs) ys o → Found p (xs ++ ys) o
  in_second xs ys p None le h = beyond xs ys p le ∙ h
  in_second xs ys p (Some e) le h =
      let n : p + 1 - length xs ≡ p - length xs + 1 = omega (arith, le) in
      beyond xs ys p le ∙ h ∙ sym (ap (λ z. e.now ∷ z) (beyond xs ys (p + 1) (omega (arith, le)) ∙ ap (λ m. drop m ys) n))
