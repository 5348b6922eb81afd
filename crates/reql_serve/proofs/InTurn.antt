-- A list in two parts.
use Rattle.std.proofs.Common.{◌≡◌, ℕ, zero, suc, ◌<◌, List, [], ◌∷◌, ◌++◌, length, All, arith, subst, sym}
use Rattle.std.specs.Prelude.{slice_index_or}
use Rattle.std.proofs.lemmas.List.Elements.{All-nil, All-cons, All-head, All-tail}

-- what holds at each place of the whole holds at each place of both parts
module _ {A : Type 0} (P : A → Type 0) where
  in_front : (front back : List A) → All P (front ++ back) → All P front
  in_front [] back h = All-nil P
  in_front (x ∷ xs) back h = All-cons P x xs (All-head P x (xs ++ back) h) (in_front xs back (All-tail P x (xs ++ back) h))

  in_back : (front back : List A) → All P (front ++ back) → All P back
  in_back [] back h = h
  in_back (x ∷ xs) back h = in_back xs back (All-tail P x (xs ++ back) h)

  pub of_front : (whole front back : List A) → whole ≡ front ++ back → All P whole → All P front
  of_front whole front back is h = in_front front back (subst (All P) is h)

  pub of_back : (whole front back : List A) → whole ≡ front ++ back → All P whole → All P back
  of_back whole front back is h = in_back front back (subst (All P) is h)

-- what holds at each place of both parts, before and after, holds at each place of the whole
module _ {A : Type 0} (R : A → A → Type 0) where
  of_parts : (front back ends others : List A) → length ends ≡ length front
      → ((k : ℕ) (w : A) → k < length front → R (slice_index_or front k w) (slice_index_or ends k w))
      → ((k : ℕ) (w : A) → k < length back → R (slice_index_or back k w) (slice_index_or others k w))
      → (k : ℕ) (w : A) → k < length (front ++ back) → R (slice_index_or (front ++ back) k w) (slice_index_or (ends ++ others) k w)
  of_parts [] back [] others same f b k w lt = b k w lt
  of_parts [] back (e ∷ es) others same f b k w lt = absurd (omega (arith, same))
  of_parts (x ∷ xs) back [] others same f b k w lt = absurd (omega (arith, same))
  of_parts (x ∷ xs) back (e ∷ es) others same f b zero w lt = f zero w (omega arith)
  of_parts (x ∷ xs) back (e ∷ es) others same f b (suc k) w lt =
      of_parts xs back es others (omega (arith, same)) (λ i v l. f (suc i) v (omega (arith, l))) b k w (omega (arith, lt))

  pub of_both : (whole front back ends others : List A) → whole ≡ front ++ back → length ends ≡ length front
      → ((k : ℕ) (w : A) → k < length front → R (slice_index_or front k w) (slice_index_or ends k w))
      → ((k : ℕ) (w : A) → k < length back → R (slice_index_or back k w) (slice_index_or others k w))
      → (k : ℕ) (w : A) → k < length whole → R (slice_index_or whole k w) (slice_index_or (ends ++ others) k w)
  of_both whole front back ends others is same f b k w lt =
      subst (λ ws. R (slice_index_or ws k w) (slice_index_or (ends ++ others) k w)) (sym is) (of_parts front back ends others same f b k w (subst (λ ws. k < length ws) is lt))
