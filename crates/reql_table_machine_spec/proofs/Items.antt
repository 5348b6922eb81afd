-- What changes append to a feed, and what of it is up to a stamp.
use Rattle.std.proofs.Common.{◌≡◌, ◌<◌, ◌≤◌, ℕ, zero, suc, ◌+◌, false, cond, not, List, [], ◌∷◌, ◌++◌, length, map, take, drop, refl, sym, ap, subst, ◌∙◌, arith, append_assoc, append-nil}
use Rattle.std.specs.List.{AllByRecursion}
use Rattle.std.specs.Prelude.{nat_lt}
use Rattle.std.proofs.lemmas.List.{map-append, take-append-drop}
use Rattle.std.proofs.lemmas.List.Elements.{filter-append}
use Rattle.std.proofs.lemmas.Bool.{lt-ltb, le-ltb}
use Rattle.reql_table_machine_spec.specs.Feeding.{Feeding, fold, changed, appended, bare, Comes, Folds}
use Rattle.reql_table_machine_spec.specs.Fed.{upto}

module _ {A : Type 0} where
  pub all_append : (P : A → Type 0) (xs ys : List A) → AllByRecursion P xs → AllByRecursion P ys → AllByRecursion P (xs ++ ys)
  all_append P [] ys p q = q
  all_append P (x ∷ xs) ys p q = (p.0, all_append P xs ys p.1 q)

  pub all_left : (P : A → Type 0) (xs ys : List A) → AllByRecursion P (xs ++ ys) → AllByRecursion P xs
  all_left P [] ys p = tt
  all_left P (x ∷ xs) ys p = (p.0, all_left P xs ys p.1)

  pub all_right : (P : A → Type 0) (xs ys : List A) → AllByRecursion P (xs ++ ys) → AllByRecursion P ys
  all_right P [] ys p = p
  all_right P (x ∷ xs) ys p = all_right P xs ys p.1

  pub all_map : (P Q : A → Type 0) → ((x : A) → P x → Q x) → (xs : List A) → AllByRecursion P xs → AllByRecursion Q xs
  all_map P Q f [] p = tt
  all_map P Q f (x ∷ xs) p = (f x p.0, all_map P Q f xs p.1)

  pub all_take : (P : A → Type 0) (n : ℕ) (xs : List A) → AllByRecursion P xs → AllByRecursion P (take n xs)
  all_take P n xs p = all_left P (take n xs) (drop n xs) (subst (λ l. AllByRecursion P l) (sym (take-append-drop n xs)) p)

  pub all_drop : (P : A → Type 0) (n : ℕ) (xs : List A) → AllByRecursion P xs → AllByRecursion P (drop n xs)
  all_drop P n xs p = all_right P (take n xs) (drop n xs) (subst (λ l. AllByRecursion P l) (sym (take-append-drop n xs)) p)

module _ {A : Type 0} where
  pub take_none : (j : ℕ) → take {A = A} j [] ≡ []
  take_none zero = refl
  take_none (suc j) = refl

module _ {I : Type 0} where
  abbrev pub Above : ℕ → List (ℕ × I) → Type 0
  Above n items = AllByRecursion (λ (p : ℕ × I). n < p.0) items

  abbrev pub Below : ℕ → List (ℕ × I) → Type 0
  Below n items = AllByRecursion (λ (p : ℕ × I). p.0 ≤ n) items

  pub upto_append : (n : ℕ) (xs ys : List (ℕ × I)) → upto n (xs ++ ys) ≡ upto n xs ++ upto n ys
  upto_append n xs ys = filter-append (λ (p : ℕ × I). not (nat_lt n p.0)) xs ys

  pub upto_none : (n : ℕ) (xs : List (ℕ × I)) → Above n xs → upto n xs ≡ []
  upto_none n [] a = refl
  upto_none n (x ∷ xs) a = ap (λ b. cond (not b) (x ∷ upto n xs) (upto n xs)) (lt-ltb n x.0 a.0) ∙ upto_none n xs a.1

  pub upto_all : (n : ℕ) (xs : List (ℕ × I)) → Below n xs → upto n xs ≡ xs
  upto_all n [] a = refl
  upto_all n (x ∷ xs) a = ap (λ b. cond (not b) (x ∷ upto n xs) (upto n xs)) (le-ltb n x.0 a.0) ∙ ap (λ l. x ∷ l) (upto_all n xs a.1)

  -- nothing but what is above
  pub upto_front : (n : ℕ) (xs ys : List (ℕ × I)) → Above n ys → upto n (xs ++ ys) ≡ upto n xs
  upto_front n xs ys a = upto_append n xs ys ∙ ap (λ l. upto n xs ++ l) (upto_none n ys a) ∙ append-nil (upto n xs)

  pub stamped_above : (n : ℕ) (b : ℕ) (is : List I) → n < b → Above n (map (λ i. (b, i)) is)
  stamped_above n b [] h = tt
  stamped_above n b (i ∷ is) h = (h, stamped_above n b is h)

  pub stamped_below : (n : ℕ) (b : ℕ) (is : List I) → b ≤ n → Below n (map (λ i. (b, i)) is)
  stamped_below n b [] h = tt
  stamped_below n b (i ∷ is) h = (h, stamped_below n b is h)

  pub above_less : (a b : ℕ) (xs : List (ℕ × I)) → a ≤ b → Above b xs → Above a xs
  above_less a b xs le h = all_map (λ (p : ℕ × I). b < p.0) (λ (p : ℕ × I). a < p.0) (λ p g. omega (arith, le, g)) xs h

  pub below_more : (a b : ℕ) (xs : List (ℕ × I)) → a ≤ b → Below a xs → Below b xs
  below_more a b xs le h = all_map (λ (p : ℕ × I). p.0 ≤ a) (λ (p : ℕ × I). p.0 ≤ b) (λ p g. omega (arith, le, g)) xs h

module _ {D J W N P M X K I F : Type 0} (m : Feeding D J W N P M X K I F) where
  pub fold_append : (k : K) (v : F) (is js : List I) → fold m k v (is ++ js) ≡ fold m k (fold m k v is) js
  fold_append k v [] js = refl
  fold_append k v (i ∷ is) js = fold_append k (m.apply k v i) is js

  pub bare_append : (xs ys : List (ℕ × I)) → bare m (xs ++ ys) ≡ bare m xs ++ bare m ys
  bare_append xs ys = map-append (λ (p : ℕ × I). p.1) xs ys

  pub bare_stamped : (n : ℕ) (is : List I) → bare m (map (λ i. (n, i)) is) ≡ is
  bare_stamped n [] = refl
  bare_stamped n (i ∷ is) = ap (λ l. i ∷ l) (bare_stamped n is)

  pub changed_append : (d : D) (xs ys : List X) → changed m d (xs ++ ys) ≡ changed m (changed m d xs) ys
  changed_append d [] ys = refl
  changed_append d (x ∷ xs) ys = changed_append (m.change d x) xs ys

  pub appended_append : (k : K) (d : D) (n : ℕ) (xs ys : List X) → appended m k d n (xs ++ ys) ≡ appended m k d n xs ++ appended m k (changed m d xs) (n + length xs) ys
  appended_append k d n [] ys = ap (λ b. appended m k d b ys) (omega arith)
  appended_append k d n (x ∷ xs) ys =
      ap (λ l. map (λ i. (suc n, i)) (m.items k d x) ++ l) (appended_append k (m.change d x) (suc n) xs ys)
      ∙ ap (λ b. map (λ i. (suc n, i)) (m.items k d x) ++ (appended m k (m.change d x) (suc n) xs ++ appended m k (changed m (m.change d x) xs) b ys)) (omega arith)
      ∙ sym (append_assoc (map (λ i. (suc n, i)) (m.items k d x)) (appended m k (m.change d x) (suc n) xs) (appended m k (changed m (m.change d x) xs) (n + length (x ∷ xs)) ys))

  -- one more change
  pub appended_one : (k : K) (d : D) (n : ℕ) (xs : List X) (x : X) → appended m k d n (xs ++ x ∷ []) ≡ appended m k d n xs ++ map (λ i. (suc (n + length xs), i)) (m.items k (changed m d xs) x)
  appended_one k d n xs x = appended_append k d n xs (x ∷ []) ∙ ap (λ l. appended m k d n xs ++ l) (append-nil (map (λ i. (suc (n + length xs), i)) (m.items k (changed m d xs) x)))

  pub appended_above : (k : K) (d : D) (n : ℕ) (xs : List X) → Above n (appended m k d n xs)
  appended_above k d n [] = tt
  appended_above k d n (x ∷ xs) = all_append (λ (p : ℕ × I). n < p.0) (map (λ i. (suc n, i)) (m.items k d x)) _
      (stamped_above n (suc n) (m.items k d x) (omega arith)) (above_less n (suc n) _ (omega arith) (appended_above k (m.change d x) (suc n) xs))

  pub appended_below : (k : K) (d : D) (n : ℕ) (xs : List X) → Below (n + length xs) (appended m k d n xs)
  appended_below k d n [] = tt
  appended_below k d n (x ∷ xs) = all_append (λ (p : ℕ × I). p.0 ≤ n + length (x ∷ xs)) (map (λ i. (suc n, i)) (m.items k d x)) _
      (stamped_below (n + length (x ∷ xs)) (suc n) (m.items k d x) (omega arith)) (below_more (suc n + length xs) (n + length (x ∷ xs)) _ (omega arith) (appended_below k (m.change d x) (suc n) xs))

  -- what is up to a stamp is what the changes up to it append
  pub upto_appended : (k : K) (d : D) (n j : ℕ) (xs : List X) → upto (n + j) (appended m k d n xs) ≡ appended m k d n (take j xs)
  upto_appended k d n j [] = sym (ap (λ (l : List X). appended m k d n l) (take_none j))
  upto_appended k d n zero (x ∷ xs) = upto_none (n + 0) _ (above_less (n + 0) n _ (omega arith) (appended_above k d n (x ∷ xs)))
  upto_appended k d n (suc j) (x ∷ xs) =
      upto_append (n + suc j) (map (λ i. (suc n, i)) (m.items k d x)) (appended m k (m.change d x) (suc n) xs)
      ∙ ap (λ l. l ++ upto (n + suc j) (appended m k (m.change d x) (suc n) xs)) (upto_all (n + suc j) _ (stamped_below (n + suc j) (suc n) (m.items k d x) (omega arith)))
      ∙ ap (λ b. map (λ i. (suc n, i)) (m.items k d x) ++ upto b (appended m k (m.change d x) (suc n) xs)) (omega arith)
      ∙ ap (λ l. map (λ i. (suc n, i)) (m.items k d x) ++ l) (upto_appended k (m.change d x) (suc n) j xs)

  module _ (good : D → Type 0) (may : D → X → Type 0) where
    pub comes_append : (d : D) (xs ys : List X) → Comes m may d xs → Comes m may (changed m d xs) ys → Comes m may d (xs ++ ys)
    comes_append d [] ys p q = q
    comes_append d (x ∷ xs) ys p q = (p.0, comes_append (m.change d x) xs ys p.1 q)

    pub comes_take : (d : D) (j : ℕ) (xs : List X) → Comes m may d xs → Comes m may d (take j xs)
    comes_take d zero xs p = tt
    comes_take d (suc j) [] p = tt
    comes_take d (suc j) (x ∷ xs) p = (p.0, comes_take (m.change d x) j xs p.1)

    pub good_changed : Folds m good may → (d : D) (xs : List X) → good d → Comes m may d xs → good (changed m d xs)
    good_changed l d [] g p = g
    good_changed l d (x ∷ xs) g p = good_changed l (m.change d x) xs (l.after d x g p.0) p.1

    -- the fold of what changes append is the value after them
    pub fold_appended : Folds m good may → (k : K) (d : D) (n : ℕ) (xs : List X) → m.squashes k ≡ false → good d → Comes m may d xs → fold m k (m.value k d) (bare m (appended m k d n xs)) ≡ m.value k (changed m d xs)
    fold_appended l k d n [] s g p = refl
    fold_appended l k d n (x ∷ xs) s g p =
        ap (λ is. fold m k (m.value k d) is) (bare_append (map (λ i. (suc n, i)) (m.items k d x)) (appended m k (m.change d x) (suc n) xs) ∙ ap (λ is. is ++ bare m (appended m k (m.change d x) (suc n) xs)) (bare_stamped (suc n) (m.items k d x)))
        ∙ fold_append k (m.value k d) (m.items k d x) (bare m (appended m k (m.change d x) (suc n) xs))
        ∙ ap (λ v. fold m k v (bare m (appended m k (m.change d x) (suc n) xs))) (l.one k d x s g p.0)
        ∙ fold_appended l k (m.change d x) (suc n) xs s (l.after d x g p.0) p.1
