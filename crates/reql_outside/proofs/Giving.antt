-- What dice and clocks gave, from one call to the next.
use Rattle.std.proofs.Common.{◌≡◌, ℕ, ◌+◌, ◌-◌, ◌^◌, ◌≤◌, zero, suc, min, List, [], ◌∷◌, ◌++◌, length, take, get_or, Option, Some, None, refl, sym, ap, ◌∙◌, append_assoc, append-nil, arith, length-append}
use Rattle.std.proofs.lemmas.List.{take_all}
use Rattle.reql_outside.specs.Source.{Source, longer, with_all, first, is_sound}
use Rattle.reql_outside.specs.Tape.{counted}

nothing_less : (n : ℕ) → n - 0 ≡ n
nothing_less n = omega arith

one_less : (n m : ℕ) → suc n - suc m ≡ n - m
one_less n m = omega arith

module _ {X : Type 0} where
  -- ---- the lists that are told
  take_none : (n : ℕ) → take {A = X} n [] ≡ []
  take_none n = take_all n [] (omega arith)

  pub longer_none : (told : List X) → longer told [] ≡ told
  unfolding longer
  longer_none told = ap (λ l. told ++ l) (take_none (2 ^ 64 - 1 - length told)) ∙ append-nil told

  take_both : (n : ℕ) (xs ys : List X) → take n xs ++ take (n - length (take n xs)) ys ≡ take n (xs ++ ys)
  take_both n [] ys = ap (λ l. l ++ take (n - length l) ys) (take_none n) ∙ ap (λ k. take k ys) (nothing_less n)
  take_both zero (x ∷ xs) ys = refl
  take_both (suc n) (x ∷ xs) ys = ap (λ k. x ∷ (take n xs ++ take k ys)) (one_less n (length (take n xs))) ∙ ap (λ l. x ∷ l) (take_both n xs ys)

  further : (n : ℕ) (told xs ys : List X) → (told ++ take (n - length told) xs) ++ take (n - length (told ++ take (n - length told) xs)) ys ≡ told ++ take (n - length told) (xs ++ ys)
  further n told xs ys =
      let front : List X = take (n - length told) xs in
      let left : n - length (told ++ front) ≡ n - length told - length front = omega (arith, length-append told front) in
      append_assoc told front (take (n - length (told ++ front)) ys) ∙ ap (λ k. told ++ (front ++ take k ys)) left ∙ ap (λ l. told ++ l) (take_both (n - length told) xs ys)

  pub longer_twice : (told xs ys : List X) → longer (longer told xs) ys ≡ longer told (xs ++ ys)
  unfolding longer
  longer_twice told xs ys = further (2 ^ 64 - 1) told xs ys

  pub all_none : (o : Option (List X)) → o ≡ with_all [] o
  all_none None = refl
  all_none (Some xs) = ap Some (sym (longer_none xs))

  pub all_more : (o : Option (List X)) (xs ys : List X) → with_all ys (with_all xs o) ≡ with_all (xs ++ ys) o
  all_more None xs ys = refl
  all_more (Some told) xs ys = ap Some (longer_twice told xs ys)

  -- ---- a list that is played
  first_length : (xs : List X) (rest : X) (n : ℕ) → length (first xs rest n) ≡ n
  first_length xs rest zero = refl
  first_length xs rest (suc n) = length-append (first xs rest n) (get_or xs n rest ∷ []) ∙ omega (arith, first_length xs rest n)

  grows : (xs : List X) (rest : X) (room given now : ℕ) → now ≡ min (given + 1) (given + room) → first xs rest now ≡ first xs rest given ++ take room (get_or xs given rest ∷ [])
  grows xs rest zero given now e = let same : now ≡ given = omega (arith, e) in ap (first xs rest) same ∙ sym (append-nil (first xs rest given))
  grows xs rest (suc room) given now e = let more : now ≡ suc given = omega (arith, e) in ap (first xs rest) more ∙ ap (λ l. first xs rest given ++ get_or xs given rest ∷ l) (sym (take_none room))

  pub plays_more : (xs : List X) (rest : X) (given : ℕ) → given ≤ 2 ^ 64 - 1 → first xs rest (counted given 1) ≡ longer (first xs rest given) (get_or xs given rest ∷ [])
  unfolding longer
  plays_more xs rest given h = grows xs rest (2 ^ 64 - 1 - length (first xs rest given)) given (counted given 1) (omega (arith, h, first_length xs rest given))

  abbrev told_of : List X → ℕ → List ℕ → Source X
  told_of gave faults fails = record { gave = Some gave; faults = faults; sound = is_sound fails }

  pub gives_next : (xs : List X) (rest x : X) (given now faults : ℕ) (fails : List ℕ) → given ≤ 2 ^ 64 - 1 → now ≡ counted given 1 → x ≡ get_or xs given rest →
      told_of (first xs rest now) faults fails ≡ told_of (longer (first xs rest given) (x ∷ [])) faults fails
  gives_next xs rest x given now faults fails h e f =
      ap (λ l. told_of l faults fails) (ap (first xs rest) e ∙ plays_more xs rest given h ∙ ap (λ y. longer (first xs rest given) (y ∷ [])) (sym f))
