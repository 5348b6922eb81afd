-- A hall with one desk.
use Rattle.std.proofs.Common.{◌≡◌, ℕ, zero, suc, ◌≤◌, List, [], ◌∷◌, ◌++◌, length, map, All, refl, sym, ap, subst, ◌∙◌, arith}
use Rattle.std.specs.List.{AllZip}
use Rattle.reql_session_spec.specs.Books.{Books, no_books}
use Rattle.reql_open_cursors.proofs.There.{there_none}
use Rattle.reql_session.specs.Keeping.{Keeps}

abbrev head_or : {X : Type 0} → X → List X → X
head_or d [] = d
head_or d (x ∷ xs) = x

abbrev tail_of : {X : Type 0} → List X → List X
tail_of [] = []
tail_of (x ∷ xs) = xs

none_more : {X : Type 0} (xs : List X) (y : X) → [] ≡ xs ++ y ∷ [] → ⊥
none_more [] y e = absurd (omega (arith, ap length e))
none_more (x ∷ xs) y e = absurd (omega (arith, ap length e))

-- the last of one is that one, and nothing is left
pub one_left : {X : Type 0} (xs : List X) (x y : X) → x ∷ [] ≡ xs ++ y ∷ [] → (xs ≡ []) × (x ≡ y)
one_left [] x y e = (refl, ap (head_or x) e)
one_left (z ∷ zs) x y e = absurd (none_more zs y (ap tail_of e))

pub alone : {A B : Type 0} (R : A → B → Type 0) (x : A) (ys : List B) → AllZip R (x ∷ []) ys → (y : B) × (ys ≡ y ∷ []) × R x y
alone R x [] h = absurd h
alone R x (y ∷ []) h = (y, refl, h.0)
alone R x (y ∷ (z ∷ zs)) h = absurd h.1

pub all_of_one : {X : Type 0} (P : X → Type 0) (x : X) → P x → All P (x ∷ [])
all_of_one P x h zero d lt = h
all_of_one P x h (suc k) d lt = absurd (omega (arith, lt))

pub first_of : {X : Type 0} (P : X → Type 0) (x : X) → All P (x ∷ []) → P x
first_of P x h = h 0 x (omega arith)

kept_count : {A B : Type 0} (f : A → B) (xs : List A) → length (map f xs) ≡ length xs
kept_count f [] = refl
kept_count f (x ∷ xs) = ap (λ n. suc n) (kept_count f xs)

pub same_count : {A B C : Type 0} (f : A → C) (g : B → C) (xs : List A) (ys : List B) → map f xs ≡ map g ys → length xs ≡ length ys
same_count f g xs ys e = sym (kept_count f xs) ∙ ap length e ∙ kept_count g ys

pub enough : {A B C : Type 0} (f : A → C) (g : B → C) (xs : List A) (ys : List B) (n m : ℕ) → map f xs ≡ map g ys → m ≡ length ys → n ≡ m → n ≤ length xs
enough f g xs ys n m e h i = omega (arith, same_count f g xs ys e, h, i)

pub keeps_nothing : (n : ℕ) (b : Books) → b ≡ no_books → Keeps n [] b
keeps_nothing n b e = subst (Keeps n []) (sym e) (record { apart = record { cursors = tt; feeds = tt }; quiet = tt; there = there_none n })
