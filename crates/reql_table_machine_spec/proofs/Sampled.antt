-- A kind of feed that meets the laws, and worked rows on it.
use Rattle.std.proofs.Common.{◌≡◌, ◌<◌, ◌≤◌, ℕ, suc, cond, List, [], ◌∷◌, ◌++◌, map, refl, ap, ◌∙◌}
use Rattle.std.specs.List.{AllByRecursion}
use Rattle.std.specs.Prelude.{nat_eq}
use Rattle.std.proofs.lemmas.Bool.{eqb-true}
use Rattle.reql_table_machine_spec.specs.Feeding.{Folds, fold, changed, appended, bare, Comes}
use Rattle.reql_table_machine_spec.proofs.Tracking.{split}
use Rattle.reql_table_machine_spec.specs.Sample.{last_of, one_number, Good, May}
use Rattle.reql_table_machine_spec.specs.Worked.{Rows}
use Rattle.reql_table_machine_spec.specs.declared.sample.Kept.{Kept}

pub rows : Rows
rows = (refl, refl, refl, refl, refl, refl, refl, refl, refl, refl)

all_may : (d : ℕ) (xs : List ℕ) → Comes one_number May d xs
all_may d [] = tt
all_may d (x ∷ xs) = (tt, all_may x xs)

one_law : (k : Kept) (d x : ℕ) → fold one_number k d (cond (nat_eq d x) [] (x ∷ [])) ≡ x
one_law k d x = split (nat_eq d x) (λ b. nat_eq d x ≡ b → fold one_number k d (cond b [] (x ∷ [])) ≡ x) (λ _ e. eqb-true d x e) (λ _ e. refl) refl

last_any : (k : Kept) (v w : ℕ) (y : ℕ × ℕ) (is : List (ℕ × ℕ)) → fold one_number k v (bare one_number (last_of (y ∷ is))) ≡ fold one_number k w (bare one_number (last_of (y ∷ is)))
last_any k v w y [] = refl
last_any k v w y (z ∷ is) = last_any k v w z is

-- the fold of the last of some items is the fold of all
last_folds : (k : Kept) (v : ℕ) (is : List (ℕ × ℕ)) → fold one_number k v (bare one_number (last_of is)) ≡ fold one_number k v (bare one_number is)
last_folds k v [] = refl
last_folds k v (x ∷ []) = refl
last_folds k v (x ∷ y ∷ is) = last_any k v x.1 y is ∙ last_folds k x.1 (y ∷ is)

all_folds : (k : Kept) (d n : ℕ) (xs : List ℕ) → fold one_number k d (bare one_number (appended one_number k d n xs)) ≡ changed one_number d xs
all_folds k d n [] = refl
all_folds k d n (x ∷ xs) = split (nat_eq d x) (λ b. nat_eq d x ≡ b → fold one_number k d (bare one_number (map (λ i. (suc n, i)) (cond b [] (x ∷ [])) ++ appended one_number k x (suc n) xs)) ≡ changed one_number x xs)
    (λ _ e. ap (λ v. fold one_number k v (bare one_number (appended one_number k x (suc n) xs))) (eqb-true d x e) ∙ all_folds k x (suc n) xs) (λ _ e. all_folds k x (suc n) xs) refl

all_last : (P : ℕ × ℕ → Type 0) (is : List (ℕ × ℕ)) → AllByRecursion P is → AllByRecursion P (last_of is)
all_last P [] a = tt
all_last P (x ∷ []) a = a
all_last P (x ∷ y ∷ is) a = all_last P (y ∷ is) a.1

pub laws : Folds one_number Good May
laws = record {
  writes = λ d j w g. all_may d w;
  after = λ d x g h. tt;
  one = λ k d x s g h. one_law k d x;
  joined = λ k d n xs s g c. last_folds k d (appended one_number k d n xs) ∙ all_folds k d n xs;
  none = λ k. refl;
  above = λ k n is a. all_last (λ (p : ℕ × ℕ). n < p.0) is a;
  below = λ k n is a. all_last (λ (p : ℕ × ℕ). p.0 ≤ n) is a;
}
