-- The number that the text of a whole number is.
use Rattle.std.proofs.Common.{◌≡◌, ℕ, zero, suc, ◌^◌, ◌<◌, ◌≤◌, List, [], ◌∷◌, ◌++◌, drop, length, get_or, true, false, ◌==◌, ℤ, pos, ◌<ℤ◌, FitsSigned, Option, Some, None, IfSome, refl, sym, ap, ◌∙◌, arith, lt-ltb, le-leb, ne_eqb, append-nil}
use Rattle.std.specs.Char.{digit_value}
use Rattle.std.specs.Prelude.{SomeIff}
use Rattle.std.specs.Int.{w64}
use Rattle.std.specs.Str.Parse.{AllDigits, digits_value, digits_value_after}
use Rattle.fast_float.specs.Text.{Parts, scan, digits_of, with_sign, IsInteger, IsWellFormed}
use Rattle.fast_float.proofs.Writing.{scan-text_of}
use Rattle.serde_json.specs.Data.{unsigned, negative}
use Rattle.serde_json.specs.Read.{number_of, number_from, is_integer}

is_whole : (p : Parts) → IsInteger p → is_integer p ≡ true
is_whole p h = rw (lt-ltb _ _ h.0, h.1, h.2) refl

from_digits : (p : Parts) → IsInteger p → digits_of p < 2 ^ 64 → number_from false p ≡ Some (unsigned (digits_of p))
from_digits p h below = rw (is_whole p h, lt-ltb _ _ below) refl

pub unsigned_read : (s : List ℕ) (r : Option ℕ) → (get_or s 0 0 == 45) ≡ false → SomeIff r (IsInteger (scan s) × (digits_of (scan s) < 2 ^ 64)) (digits_of (scan s)) → IfSome r (λ n. number_of s ≡ Some (unsigned n))
unfolding number_of
unsigned_read s None plain h = tt
unsigned_read s (Some n) plain h = rw (plain, h.1) (from_digits (scan s) h.0.0 h.0.1)

from_minus : (p : Parts) (d : ℕ) → IsInteger p → digits_of p ≡ d → FitsSigned w64 (with_sign true d) → with_sign true d <ℤ pos 0 → number_from true p ≡ Some (negative (with_sign true d))
from_minus p zero h is fits below = absurd (omega (arith, below))
from_minus p (suc d) h is fits below = let some : 0 < suc d = omega arith in let most : suc d ≤ 2 ^ 63 = omega (arith, fits) in rw (is_whole p h, is, lt-ltb _ _ some, le-leb _ _ most) refl

pub negative_read : (s : List ℕ) (n : ℤ) → (get_or s 0 0 == 45) ≡ true → IsInteger (scan (drop 1 s)) × FitsSigned w64 (with_sign true (digits_of (scan (drop 1 s)))) → n ≡ with_sign true (digits_of (scan (drop 1 s))) → n <ℤ pos 0
    → number_of s ≡ Some (negative n)
unfolding number_of
negative_read s n minus h is below = rw (minus, is) (from_minus (scan (drop 1 s)) (digits_of (scan (drop 1 s))) h.0 refl h.1 (rw is at below))

-- ---- a text of digits alone

no_minus : (ds : List ℕ) → AllDigits 10 ds → 0 < length ds → get_or ds 0 0 ≡ 45 → ⊥
no_minus [] h some e = omega arith
no_minus (d ∷ ds) h some e = let digit : digit_value d < 10 = h.0 in let is : d ≡ 45 = e in grind arith

abbrev parts_of : List ℕ → Parts
parts_of ds = record { whole = ds; point = false; fraction = []; exponent_negative = false; exponent = []; len = length (ds ++ []) }

scanned : (ds : List ℕ) → AllDigits 10 ds → scan ds ≡ parts_of ds
scanned ds h =
    let formed : IsWellFormed (parts_of ds) = record { whole_digits = h; fraction_digits = tt; exponent_digits = tt; no_point = λ _. refl; no_exponent = λ _. refl; len_is = refl } in
    ap scan (sym (append-nil ds)) ∙ scan-text_of (parts_of ds) formed

pub digits_read : (ds : List ℕ) (n : ℕ) → AllDigits 10 ds → digits_value 10 ds ≡ n → 0 < length ds → n < 2 ^ 64 → number_of ds ≡ Some (unsigned n)
unfolding number_of
digits_read ds n h is some below =
    let value : digits_of (parts_of ds) ≡ n = ap (digits_value 10) (append-nil ds) ∙ is in
    rw (ne_eqb (get_or ds 0 0) 45 (no_minus ds h some), scanned ds h) (from_digits (parts_of ds) (some, refl, refl) (omega (arith, value)) ∙ ap (λ m. Some (unsigned m)) value)

-- what is read of digits up to here, and what is left of them
abbrev pub Leads : ℕ → List ℕ → List ℕ → Type 0
Leads n rest all = record { digits : AllDigits 10 rest → AllDigits 10 all; value : digits_value_after 10 n rest ≡ digits_value 10 all }

pub all_read : (n : ℕ) (left all : List ℕ) → left ≡ [] → Leads n left all → 0 < length all → n < 2 ^ 64 → number_of all ≡ Some (unsigned n)
all_read n left all is h some below =
    let digits : AllDigits 10 all = h.digits (rw is tt) in
    let value : digits_value 10 all ≡ n = sym (rw is at h.value) in
    digits_read all n digits value some below
