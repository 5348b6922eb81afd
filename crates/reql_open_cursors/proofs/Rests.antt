-- What stands from a place of a list on.
use Rattle.std.proofs.Common.{◌≡◌, ℕ, zero, suc, ◌-◌, ◌≤◌, List, [], ◌∷◌, map, take, drop, length, refl, sym, ap, ◌∙◌, arith}
use Rattle.std.proofs.lemmas.List.{take_all, drop_all, drop-map, length-drop}
use Rattle.reql_datum.specs.Plain.{Plain}
use Rattle.reql_datum.specs.View.{plain}
use Rattle.reql_datum.specs.declared.datum.Datum.{Datum}

pub all_taken : {X : Type 0} (xs : List X) (from : ℕ) → take (length xs - from) (drop from xs) ≡ drop from xs
all_taken xs from = take_all (length xs - from) (drop from xs) (omega (arith, length-drop from xs))

pub past : {X : Type 0} (xs : List X) (from : ℕ) → length xs ≤ from → take (length xs - length xs) (drop (length xs) xs) ≡ drop from xs
past xs from le = all_taken xs (length xs) ∙ drop_all (length xs) xs (omega arith) ∙ sym (drop_all from xs le)

pub shown_rest : (seen rest : List Datum) (vs : List Plain) (from : ℕ) → map plain seen ≡ vs → rest ≡ drop from seen → map plain rest ≡ drop from vs
shown_rest seen rest vs from is left = ap (map plain) left ∙ sym (drop-map plain from seen) ∙ ap (drop from) is

pub whole : {X : Type 0} (xs : List X) (count : ℕ) → length xs ≤ count → xs ≡ take count xs
whole xs count le = sym (take_all count xs le)

taken : (count : ℕ) (ds : List Datum) → map plain (take count ds) ≡ take count (map plain ds)
taken zero ds = refl
taken (suc count) [] = refl
taken (suc count) (d ∷ ds) = ap (λ vs. plain d ∷ vs) (taken count ds)

pub shown_first : (left first : List Datum) (vs : List Plain) (count : ℕ) → map plain left ≡ vs → first ≡ take count left → map plain first ≡ take count vs
shown_first left first vs count is at = ap (map plain) at ∙ taken count left ∙ ap (take count) is
