-- One item more of a list's beginning.
use Rattle.std.proofs.Common.{◌≡◌, ℕ, zero, suc, ◌+◌, List, [], ◌∷◌, ◌++◌, take, drop, refl, sym, ap, ◌∙◌, add-one, append_assoc, rules}

pub take_more : {X : Type 0} (i : ℕ) (xs : List X) (x : X) (ys : List X) → drop i xs ≡ x ∷ ys → take (suc i) xs ≡ take i xs ++ x ∷ []
take_more zero [] x ys h = search rules
take_more zero (y ∷ xs) x ys h = search rules
take_more (suc i) [] x ys h = search rules
take_more (suc i) (y ∷ xs) x ys h = ap (λ t. y ∷ t) (take_more i xs x ys h)

pub grown : {X : Type 0} (new old start xs ys : List X) (x : X) (i : ℕ) → new ≡ old ++ x ∷ [] → old ≡ start ++ take i xs → drop i xs ≡ x ∷ ys → new ≡ start ++ take (i + 1) xs
grown new old start xs ys x i is was rest =
    is ∙ ap (λ t. t ++ x ∷ []) was ∙ append_assoc start (take i xs) (x ∷ []) ∙ ap (λ t. start ++ t) (sym (take_more i xs x ys rest)) ∙ ap (λ k. start ++ take k xs) (sym (add-one i))

pub take_whole : {X : Type 0} (i : ℕ) (xs : List X) → drop i xs ≡ [] → take i xs ≡ xs
take_whole zero [] h = refl
take_whole zero (x ∷ xs) h = search rules
take_whole (suc i) [] h = refl
take_whole (suc i) (x ∷ xs) h = ap (λ t. x ∷ t) (take_whole i xs h)

pub take_next : {X : Type 0} (i : ℕ) (xs : List X) (x : X) (ys : List X) → drop i xs ≡ x ∷ ys → take i xs ++ x ∷ [] ≡ take (i + 1) xs
take_next i xs x ys h = sym (take_more i xs x ys h) ∙ ap (λ k. take k xs) (sym (add-one i))
