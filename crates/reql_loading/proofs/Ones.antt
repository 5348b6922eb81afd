-- A list of one element, and what holds of the first so many elements.
use Rattle.std.proofs.Common.{◌≡◌, ℕ, zero, suc, ◌+◌, ◌<◌, ◌≤◌, ◌⊎◌, inl, inr, List, [], ◌∷◌, length, map, ap, subst, sym, arith, ◌∙◌, refl}
use Rattle.std.specs.Prelude.{get_or, slice_index_or}

pub one : {A : Type 0} (xs : List A) (m : A) → 1 ≤ length xs → length xs < 2 → m ≡ get_or xs 0 m → xs ≡ m ∷ []
one [] m some few is = absurd (omega (arith, some))
one (x ∷ []) m some few is = ap (λ y. y ∷ []) (sym is)
one (x ∷ y ∷ ys) m some few is = absurd (omega (arith, few))

up : (k n : ℕ) → (k < n) ⊎ (k ≡ n) → (suc k < suc n) ⊎ (suc k ≡ suc n)
up k n (inl less) = inl (omega (arith, less))
up k n (inr same) = inr (ap (λ m. suc m) same)

below : (k n : ℕ) → k < n + 1 → (k < n) ⊎ (k ≡ n)
below zero zero lt = inr refl
below zero (suc n) lt = inl (omega arith)
below (suc k) zero lt = absurd (omega (arith, lt))
below (suc k) (suc n) lt = up k n (below k n (omega (arith, lt)))

module _ {A B : Type 0} (f : A → B) where
  at_map : (xs : List A) (n : ℕ) (x : A) (d : B) → n < length xs → slice_index_or (map f xs) n d ≡ f (slice_index_or xs n x)
  at_map [] n x d lt = absurd (omega (arith, lt))
  at_map (y ∷ ys) zero x d lt = refl
  at_map (y ∷ ys) (suc n) x d lt = at_map ys n x d (omega (arith, lt))

  by_cases : (P : ℕ → B → Type 0) (xs : List A) (n : ℕ) (x : A) → n < length xs → slice_index_or xs n x ≡ x → ((k : ℕ) (d : B) → k < n → P k (slice_index_or (map f xs) k d)) → P n (f x)
      → (k : ℕ) (d : B) → (k < n) ⊎ (k ≡ n) → P k (slice_index_or (map f xs) k d)
  by_cases P xs n x lt is before here k d (inl less) = before k d less
  by_cases P xs n x lt is before here k d (inr same) = subst (λ m. P m (slice_index_or (map f xs) m d)) (sym same) (subst (P n) (sym (at_map xs n x d lt ∙ ap f is)) here)

  -- where it holds of the first n and of the next one, it holds of one more
  pub one_more : (P : ℕ → B → Type 0) (xs : List A) (n : ℕ) (x : A) → n < length xs → slice_index_or xs n x ≡ x → ((k : ℕ) (d : B) → k < n → P k (slice_index_or (map f xs) k d)) → P n (f x)
      → (k : ℕ) (d : B) → k < n + 1 → P k (slice_index_or (map f xs) k d)
  one_more P xs n x lt is before here k d less = by_cases P xs n x lt is before here k d (below k n less)
