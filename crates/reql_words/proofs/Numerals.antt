-- A word that is written as numbers are, and whose number is too large to be read.
use Rattle.std.proofs.Common.{◌≡◌, ℕ, ◌^◌, ◌<◌, Bool, true, false, ◌&&◌, ◌||◌, ◌==◌, not, cond, nat_le, List, [], ◌∷◌, length, Some, None, Err, refl, sym, ap, ◌∙◌, arith, lt_of_not-le}
use Rattle.std.specs.Char.{is_ascii_digit}
use Rattle.std.specs.List.{list_all}
use Rattle.std.specs.Str.{all_ascii_digits}
use Rattle.std.specs.Str.Parse.{ParsesUnsigned, digits_value}
use Rattle.std.proofs.lemmas.Bool.{lt-leb}
use Rattle.std.proofs.lemmas.Str.Parse.{IsNumeralModel, numerals_by_value, parse_digits, tells_all_ascii_digits}
use Rattle.reql_words.specs.Words.{is_numeral, number_within}

same : (ds : List ℕ) → list_all is_ascii_digit ds ≡ all_ascii_digits ds
same [] = refl
same (c ∷ cs) = ap (λ b. is_ascii_digit c && b) (same cs)

second : (a b : Bool) → (a && b) ≡ true → b ≡ true
second true b e = e
second false b e = absurd (let f : false ≡ true = e in cc)

some : (bs : List ℕ) → is_numeral bs ≡ true → 0 < length bs
some [] e = absurd (let f : false ≡ true = e in cc)
some (b ∷ bs) e = omega arith

all : (bs : List ℕ) → is_numeral bs ≡ true → list_all is_ascii_digit bs ≡ true
all [] e = absurd (let f : false ≡ true = e in cc)
all (b ∷ bs) e = second (not (b == 48) || length bs == 0) (list_all is_ascii_digit (b ∷ bs)) e

model : IsNumeralModel (λ ds. all_ascii_digits ds ≡ true) (digits_value 10)
model = numerals_by_value (λ ds. all_ascii_digits ds ≡ true) tells_all_ascii_digits

beyond : (most value limit : ℕ) → most < limit → ¬ (value < limit) → most < value
beyond most value limit fits reached = lt_of_not-le (λ le. reached (omega (arith, le, fits)))

above : {E : Type 0} (most : ℕ) (bs : List ℕ) (e : E) → is_numeral bs ≡ true → ParsesUnsigned 64 10 bs (Err e) → most < 2 ^ 64 → most < digits_value 10 bs
above most bs e is read fits =
    beyond most (digits_value 10 bs) (2 ^ 64) fits (λ below. parse_digits model 64 bs (Err e) read (sym (same bs) ∙ all bs is) (some bs is, below))

last : (a b c : Bool) → c ≡ false → (a && (b && c)) ≡ false
last true true c e = e
last true false c e = refl
last false b c e = refl

pub unread : {E : Type 0} (least most : ℕ) (bs : List ℕ) (e : E) → is_numeral bs ≡ true → ParsesUnsigned 64 10 bs (Err e) → most < 2 ^ 64 → None ≡ number_within least most bs
unread least most bs e is read fits =
    sym (ap (λ t. cond t (Some (digits_value 10 bs)) None)
    (last (is_numeral bs) (nat_le least (digits_value 10 bs)) (nat_le (digits_value 10 bs) most) (lt-leb (digits_value 10 bs) most (above most bs e is read fits))))
