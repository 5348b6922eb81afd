-- One option with its value, and the others after it; and a table among those that were named.
use Rattle.std.proofs.Common.{◌≡◌, ℕ, suc, Bool, true, false, ◌||◌, ◌&&◌, not, cond, nat_lt, List, [], ◌∷◌, ◌++◌, length, map, Some, Result, Ok, Err, refl, sym, ap, subst, ◌∙◌}
use Rattle.std.specs.Borrow.{Bor}
use Rattle.std.specs.List.{list_any}
use Rattle.reql_words.specs.Words.{Asks, Said, SaysAll, Wrong, asks_options, goes_on, is_one_more, is_pair, is_whole, lacks_value, most_tables, named, one_more, serves, table_in, with_option, with_table, with_whole}
use Rattle.reql_words.specs.declared.words.Refusal.{Refusal}

-- one word, and two, as a slice is taken apart
pub one_word : {A : Type 0} (f : A → List ℕ) (xs rest : List A) (x : A) (w : List ℕ) → xs ≡ x ∷ rest → w ≡ f x → map f xs ≡ w ∷ map f rest
one_word f xs rest x w first is = cc

pub two_words : {A : Type 0} (f : A → List ℕ) (xs rest more : List A) (x y : A) (w v : List ℕ) → xs ≡ x ∷ rest → rest ≡ y ∷ more → w ≡ f x → v ≡ f y
    → map f xs ≡ w ∷ v ∷ map f more
two_words f xs rest more x y w v first then is also = cc

-- a word that says an option whole, and an option with the next word
one_whole : (w : List ℕ) (ws : List (List ℕ)) (said : Said) → is_whole w ≡ true → asks_options (w ∷ ws) said ≡ goes_on (with_whole w said) (λ s. asks_options ws s)
one_whole w [] said e = ap (λ b. cond b (goes_on (with_whole w said) serves) (lacks_value w said)) e
one_whole w (v ∷ ws) said e = ap (λ b. cond b (goes_on (with_whole w said) (asks_options (v ∷ ws))) (goes_on (with_option w v said) (asks_options ws))) e

one_pair : (w v : List ℕ) (ws : List (List ℕ)) (said : Said) → is_whole w ≡ false → asks_options (w ∷ (v ∷ ws)) said ≡ goes_on (with_option w v said) (λ s. asks_options ws s)
one_pair w v ws said e = ap (λ b. cond b (goes_on (with_whole w said) (asks_options (v ∷ ws))) (goes_on (with_option w v said) (asks_options ws))) e

-- what is asked after a step
step : (all ws : List (List ℕ)) (said next last : Said) (o : Result Said Asks) (r : Result (Unit {0}) Refusal) → asks_options all said ≡ goes_on o (λ s. asks_options ws s) → o ≡ Ok next
    → SaysAll (asks_options ws next) last r → SaysAll (asks_options all said) last r
step all ws said next last o r goes is says = subst (λ a. SaysAll a last r) (sym (goes ∙ ap (λ p. goes_on p (λ s. asks_options ws s)) is)) says

pub after_whole : (w : List ℕ) (all ws : List (List ℕ)) (said next last : Said) (r : Result (Unit {0}) Refusal) → all ≡ w ∷ ws → is_whole w ≡ true → with_whole w said ≡ Ok next
    → SaysAll (asks_options ws next) last r → SaysAll (asks_options all said) last r
after_whole w all ws said next last r words whole is says = step all ws said next last (with_whole w said) r (ap (λ l. asks_options l said) words ∙ one_whole w ws said whole) is says

pub after_option : (w v : List ℕ) (all ws : List (List ℕ)) (said next last : Said) (r : Result (Unit {0}) Refusal) → all ≡ w ∷ v ∷ ws → is_whole w ≡ false → with_option w v said ≡ Ok next
    → SaysAll (asks_options ws next) last r → SaysAll (asks_options all said) last r
after_option w v all ws said next last r words whole is says = step all ws said next last (with_option w v said) r (ap (λ l. asks_options l said) words ∙ one_pair w v ws said whole) is says

-- whether one of the images is such
any_of : {A B : Type 0} (p : B → Bool) (f : A → B) (xs : List A) → list_any p (map f xs) ≡ list_any (λ x. p (f x)) xs
any_of p f [] = refl
any_of p f (x ∷ xs) = ap (λ b. p (f x) || b) (any_of p f xs)

many : {A B : Type 0} (f : A → B) (xs : List A) → length (map f xs) ≡ length xs
many f [] = refl
many f (x ∷ xs) = ap (λ n. suc n) (many f xs)

more : {A B : Type 0} (f : A → B) (xs : List A) (x : A) → map f (xs ++ x ∷ []) ≡ map f xs ++ f x ∷ []
more f [] x = refl
more f (y ∷ ys) x = ap (λ zs. f y ∷ zs) (more f ys x)

may : (p : List ℕ × List ℕ) (xs : List (Bor (List ℕ) × Bor (List ℕ))) → (nat_lt (length (map named xs)) most_tables && not (list_any (is_pair p) (map named xs))) ≡ is_one_more p xs
may p xs = ap (λ n. nat_lt n most_tables && not (list_any (is_pair p) (map named xs))) (many named xs) ∙ ap (λ b. nat_lt (length xs) most_tables && not b) (any_of (is_pair p) named xs)

by_may : (value : List ℕ) (said : Said) (p : List ℕ × List ℕ) (xs : List (Bor (List ℕ) × Bor (List ℕ))) (b : Bool) → said.tables ≡ map named xs → is_one_more p xs ≡ b
    → one_more value said (Some p) ≡ cond b (Ok (record said { tables = said.tables ++ p ∷ [] })) (Err (Wrong value))
by_may value said p xs b are is = ap (λ c. cond c (Ok (record said { tables = said.tables ++ p ∷ [] })) (Err (Wrong value)))
    (ap (λ ts. nat_lt (length ts) most_tables && not (list_any (is_pair p) ts)) are ∙ may p xs ∙ is)

-- a table that may not be named, and one that is
pub no_more : (value : List ℕ) (said : Said) (p : List ℕ × List ℕ) (xs : List (Bor (List ℕ) × Bor (List ℕ))) → said.tables ≡ map named xs → table_in value ≡ Some p → is_one_more p xs ≡ false
    → with_table value said ≡ Err (Wrong value)
no_more value said p xs are is none = ap (λ t. one_more value said t) is ∙ by_may value said p xs false are none

pub goes_in : (value : List ℕ) (said : Said) (t : Bor (List ℕ) × Bor (List ℕ)) (xs ys : List (Bor (List ℕ) × Bor (List ℕ))) → said.tables ≡ map named xs → table_in value ≡ Some (named t) → is_one_more (named t) xs ≡ true → ys ≡ xs ++ t ∷ []
    → with_table value said ≡ Ok (record said { tables = map named ys })
goes_in value said t xs ys are is may put = ap (λ u. one_more value said u) is ∙ by_may value said (named t) xs true are may
    ∙ ap (λ l. Ok (record said { tables = l })) (ap (λ ts. ts ++ named t ∷ []) are ∙ sym (more named xs t) ∙ ap (λ l. map named l) (sym put))
