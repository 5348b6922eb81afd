-- One element more in a sum, and the quotient that a mean is.
use Rattle.std.proofs.Common.{◌≡◌, refl, ℕ, ℤ, pos, List, ◌∷◌, Bool, true, false, cond, if◌then◌else◌, Option, Some, None, Ok, Err, int_div, int_rem}
use Rattle.std.specs.Ordering.{int_eq}
use Rattle.reql_datum.specs.Answer.{Answer, ◌>>=◌}
use Rattle.reql_datum.specs.Arithmetic.{quotient}
use Rattle.reql_datum.specs.Plain.{Plain}
use Rattle.reql_datum.specs.Whole.{is_in}
use Rattle.reql_datum.specs.declared.whole.NumFault.TheVariants.{OverRange}
use Rattle.reql_rules.specs.Mapping.{if_any}
use Rattle.reql_rules.specs.Totals.{over_values, with_value, summed}

pub sum_on : (m : Plain → Answer Plain) (s : ℤ × ℕ) (v : Plain) (us vs : List Plain) (k : Option Plain)
    → us ≡ v ∷ vs → if_any (m v) ≡ Ok k → over_values summed m s us ≡ (with_value summed s v k >>= λ t. over_values summed m t vs)
sum_on m s v us vs k e f = rw (e, f) refl

pub sum_step : (m : Plain → Answer Plain) (s t : ℤ × ℕ) (v : Plain) (us vs : List Plain) (k : Option Plain)
    → us ≡ v ∷ vs → if_any (m v) ≡ Ok k → with_value summed s v k ≡ Ok t → over_values summed m s us ≡ over_values summed m t vs
sum_step m s t v us vs k e f g = rw (e, f, g) refl

held_at : (b : Bool) (n q : ℤ) → Some n ≡ (if b then Some q else None) → Ok n ≡ cond b (Ok q) (Err OverRange)
held_at true n q h = cc
held_at false n q h = cc

pub quotient_at : (a b n : ℤ) → int_eq b (pos 0) ≡ false → int_eq (int_rem a b) (pos 0) ≡ true
    → Some n ≡ (if is_in (int_div a b) then Some (int_div a b) else None) → Ok n ≡ quotient a b
quotient_at a b n h l e = rw (h, l) (held_at (is_in (int_div a b)) n (int_div a b) e)
