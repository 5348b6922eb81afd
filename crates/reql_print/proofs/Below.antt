-- A part of a term weighs less than the list that it stands in.
use Rattle.std.proofs.Common.{◌≡◌, ℕ, suc, zero, ◌<◌, ◌+◌, List, [], ◌∷◌, Some, slice_get, arith, rules}
use Rattle.reql_term.specs.Form.{Form, weight, list_weight, fields_weight}

pub form_below : (fs : List Form) (i : ℕ) (f : Form) → slice_get fs i ≡ Some f → weight f < list_weight fs
form_below [] i f h = search rules
form_below (g ∷ gs) zero f h = search rules
form_below (g ∷ gs) (suc i) f h = omega (arith, form_below gs i f h)

pub field_below : (ms : List (List ℕ × Form)) (i : ℕ) (k : List ℕ) (f : Form) → slice_get ms i ≡ Some (k, f) → weight f < fields_weight ms
field_below [] i k f h = search rules
field_below (m ∷ ms) zero k f h = search rules
field_below (m ∷ ms) (suc i) k f h = omega (arith, field_below ms i k f h)

pub ruleset below = (form_below, field_below)
