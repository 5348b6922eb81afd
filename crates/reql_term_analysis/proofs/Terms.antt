-- Lists of terms.
use Rattle.std.proofs.Common.{◌≡◌, ℕ, zero, suc, ◌+◌, ◌-◌, ◌<◌, ◌≤◌, length, get_or, List, [], ◌∷◌, Some, None, refl, ap, arith, slice_get}
use Rattle.reql_term.specs.Form.{weight}
use Rattle.reql_term.specs.View.{form_of}
use Rattle.reql_term.specs.declared.term.Term.{Term}
use Rattle.reql_value_spec.specs.Meaning.{sense}
use Rattle.reql_term_analysis.specs.Bound.{listed, all_weight}

pub term_below : (ts : List Term) (i : ℕ) (d : Term) → i < length ts → weight (form_of (get_or ts i d)) < all_weight ts
term_below [] i d h = absurd (omega arith)
term_below (t ∷ ts) zero d h = omega arith
term_below (t ∷ ts) (suc i) d h = omega (arith, term_below ts i d (omega arith))

pub length_listed : (ts : List Term) → length (listed ts) ≡ length ts
length_listed [] = refl
length_listed (t ∷ ts) = ap suc (length_listed ts)

pub slot_within : (ts : List Term) (i : ℕ) (d : Term) → i < length ts → slice_get (listed ts) i ≡ Some (sense (form_of (get_or ts i d)))
slot_within [] i d h = absurd (omega arith)
slot_within (t ∷ ts) zero d h = refl
slot_within (t ∷ ts) (suc i) d h = slot_within ts i d (omega arith)

pub slot_past : (ts : List Term) (i : ℕ) → length ts ≤ i → slice_get (listed ts) i ≡ None
slot_past [] i h = refl
slot_past (t ∷ ts) zero h = absurd (omega arith)
slot_past (t ∷ ts) (suc i) h = slot_past ts i (omega arith)

-- two terms weigh less together than their list
pub two_below : (ts : List Term) (d e : Term) → length ts ≡ 2 → weight (form_of (get_or ts 0 d)) + weight (form_of (get_or ts 1 e)) + 1 < all_weight ts
two_below [] d e h = absurd (omega arith)
two_below (t ∷ []) d e h = absurd (omega arith)
two_below (t ∷ u ∷ ts) d e h = omega arith
