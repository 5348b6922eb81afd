-- What stands at a place of a list after one more is put at its end, after one is replaced, and after all are changed.
use Rattle.std.proofs.Common.{◌≡◌, ℕ, zero, suc, ◌<◌, List, [], ◌∷◌, ◌++◌, length, Some, slice_get, slice_set, refl, ap, ◌⊎◌, inl, inr, arith}

module _ {X : Type 0} where
  pub within : (xs : List X) (k : ℕ) (x : X) → slice_get xs k ≡ Some x → k < length xs
  within [] k x h = absurd (cc (h))
  within (y ∷ xs) zero x h = omega arith
  within (y ∷ xs) (suc k) x h = omega (arith, within xs k x h)

  pub get_before : (xs ys : List X) (k : ℕ) → k < length xs → slice_get (xs ++ ys) k ≡ slice_get xs k
  get_before [] ys k h = absurd (omega (arith, h))
  get_before (x ∷ xs) ys zero h = refl
  get_before (x ∷ xs) ys (suc k) h = get_before xs ys k (omega (arith, h))

  pub get_last : (xs : List X) (y : X) → slice_get (xs ++ y ∷ []) (length xs) ≡ Some y
  get_last [] y = refl
  get_last (x ∷ xs) y = get_last xs y

  pub get_new : (xs : List X) (y z : X) (k : ℕ) → slice_get (xs ++ y ∷ []) k ≡ Some z → (slice_get xs k ≡ Some z) ⊎ ((k ≡ length xs) × (y ≡ z))
  get_new [] y z zero h = inr (refl, cc)
  get_new [] y z (suc k) h = absurd (cc (h))
  get_new (x ∷ xs) y z zero h = inl h
  get_new (x ∷ xs) y z (suc k) h = elim (get_new xs y z k h) [
    | inl g ↦ inl g
    | inr g ↦ inr (ap suc g.0, g.1)
  ]

  pub get_replaced : (xs : List X) (y : X) (k : ℕ) → k < length xs → slice_get (slice_set xs k y) k ≡ Some y
  get_replaced [] y k h = absurd (omega (arith, h))
  get_replaced (x ∷ xs) y zero h = refl
  get_replaced (x ∷ xs) y (suc k) h = get_replaced xs y k (omega (arith, h))

  pub get_other : (xs : List X) (y : X) (i k : ℕ) → (i ≡ k → ⊥) → slice_get (slice_set xs i y) k ≡ slice_get xs k
  get_other [] y i k apart = refl
  get_other (x ∷ xs) y zero zero apart = absurd (apart refl)
  get_other (x ∷ xs) y zero (suc k) apart = refl
  get_other (x ∷ xs) y (suc i) zero apart = refl
  get_other (x ∷ xs) y (suc i) (suc k) apart = get_other xs y i k (λ e. apart (ap suc e))

  -- a place holds the new one or what it held
  pub get_set : (xs : List X) (y : X) (i k : ℕ) → (slice_get (slice_set xs i y) k ≡ slice_get xs k) ⊎ (slice_get (slice_set xs i y) k ≡ Some y)
  get_set [] y i k = inl refl
  get_set (x ∷ xs) y zero zero = inr refl
  get_set (x ∷ xs) y zero (suc k) = inl refl
  get_set (x ∷ xs) y (suc i) zero = inl refl
  get_set (x ∷ xs) y (suc i) (suc k) = get_set xs y i k
