-- A quotient that is exact.
use Rattle.std.proofs.Common.{◌≡◌, ℤ, pos, ◌+ℤ◌, ◌*ℤ◌, Bool, true, false, cond, Ok, Err, int_div, int_rem, refl, arith}
use Rattle.std.specs.Ordering.{int_eq}
use Rattle.std.proofs.lemmas.Bool.Decides.{Decides-int_eq}
use Rattle.std.proofs.lemmas.Int.{quot-rem, ints}
use Rattle.reql_datum.specs.Whole.{is_in}
use Rattle.reql_datum.specs.Arithmetic.{held, quotient, remainder}
use Rattle.reql_datum.specs.declared.whole.NumFault.TheVariants.{OverRange, ZeroDivisor, NotWhole}

pub quotient_is : (a b r : ℤ) → int_eq b (pos 0) ≡ false → Ok r ≡ remainder a b → r ≡ pos 0 → held (int_div a b) ≡ quotient a b
quotient_is a b r h e z =
    let left : int_rem a b ≡ pos 0 = (let f = rw h at e in cc) in
    rw (h, left)

in_held : (i : Bool) (d q : ℤ) → Ok q ≡ cond i (Ok d) (Err OverRange) → q ≡ d
in_held true d q h = cc
in_held false d q h = cc

none_left : (a b r q : ℤ) → r ≡ pos 0 → q *ℤ b +ℤ r ≡ a → q *ℤ b ≡ a
none_left a b r q z e = omega (arith, ints)

exact_at : (l : Bool) (a b q : ℤ) → int_eq (int_rem a b) (pos 0) ≡ l → Ok q ≡ cond l (held (int_div a b)) (Err NotWhole) → q *ℤ b ≡ a
exact_at true a b q left h =
    let is : q ≡ int_div a b = in_held (is_in (int_div a b)) (int_div a b) q h in
    let none : int_rem a b ≡ pos 0 = (Decides-int_eq (int_rem a b) (pos 0)).0 left in
    rw is (none_left a b (int_rem a b) (int_div a b) none (quot-rem a b))
exact_at false a b q left h = cc

exact_by : (z : Bool) (a b q : ℤ) → Ok q ≡ cond z (Err ZeroDivisor) (cond (int_eq (int_rem a b) (pos 0)) (held (int_div a b)) (Err NotWhole)) → q *ℤ b ≡ a
exact_by true a b q h = cc
exact_by false a b q h = exact_at (int_eq (int_rem a b) (pos 0)) a b q refl h

-- an exact quotient times the divisor is the dividend
pub quotient_exact : (a b q : ℤ) → Ok q ≡ quotient a b → q *ℤ b ≡ a
quotient_exact a b q h = exact_by (int_eq b (pos 0)) a b q h
