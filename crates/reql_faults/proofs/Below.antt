-- A part of a term weighs less than the list that it stands in, and the parts found in lists are those of the definition.
use Rattle.std.proofs.Common.{◌≡◌, ℕ, suc, zero, ◌<◌, ◌+◌, List, [], ◌∷◌, length, map, Option, Some, None, Bool, true, false, nat_eq, option_map, refl, sym, ap, slice_get, arith, rules}
use Rattle.std.proofs.lemmas.Bool.Decides.{nat_tests}
use Rattle.reql_term.specs.Form.{Form, Forms, weight, list_weight, fields_weight, forms_of, named_of}
use Rattle.reql_faults.specs.Places.{count, members, first, second, third}
use Rattle.reql_faults.specs.Faults.{is_one}

pub form_below : (fs : List Form) (i : ℕ) (f : Form) → slice_get fs i ≡ Some f → weight f < list_weight fs
form_below [] i f h = search rules
form_below (g ∷ gs) zero f h = search rules
form_below (g ∷ gs) (suc i) f h = omega (arith, form_below gs i f h)

pub field_below : (ms : List (List ℕ × Form)) (i : ℕ) (k : List ℕ) (f : Form) → slice_get ms i ≡ Some (k, f) → weight f < fields_weight ms
field_below [] i k f h = search rules
field_below (m ∷ ms) zero k f h = search rules
field_below (m ∷ ms) (suc i) k f h = omega (arith, field_below ms i k f h)

pub one_of : (ids : List ℕ) → is_one ids ≡ nat_eq (length ids) 1
one_of [] = refl
one_of (k ∷ []) = refl
one_of (k ∷ l ∷ ls) = sym (above (length ls))
  where
    above : (n : ℕ) → nat_eq (suc (suc n)) 1 ≡ false
    above n = grind (arith, nat_tests)

pub count_of : (fs : List Form) → count (forms_of fs) ≡ length fs
count_of [] = refl
count_of (f ∷ fs) = ap suc (count_of fs)

pub members_of : (ms : List (List ℕ × Form)) → members (named_of ms) ≡ ms
members_of [] = refl
members_of (m ∷ ms) = ap (λ ns. m ∷ ns) (members_of ms)

pub first_of : (fs : List Form) → first (forms_of fs) ≡ slice_get fs 0
first_of [] = refl
first_of (f ∷ fs) = refl

pub second_of : (fs : List Form) → second (forms_of fs) ≡ slice_get fs 1
second_of [] = refl
second_of (f ∷ []) = refl
second_of (f ∷ g ∷ fs) = refl

pub third_of : (fs : List Form) → third (forms_of fs) ≡ slice_get fs 2
third_of [] = refl
third_of (f ∷ []) = refl
third_of (f ∷ g ∷ []) = refl
third_of (f ∷ g ∷ h ∷ fs) = refl

pub ruleset below = (form_below, field_below, one_of, count_of, members_of, first_of, second_of, third_of)
