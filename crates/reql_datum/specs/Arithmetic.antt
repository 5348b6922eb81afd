-- What arithmetic on whole numbers of the range answers.
use Rattle.std.specs.Prelude.{ℤ, pos, cond, Result, Ok, Err, int_div, int_rem}
use Rattle.std.specs.Ordering.{int_eq}
use Rattle.reql_datum.specs.Whole.{is_in}
use Rattle.reql_datum.specs.declared.whole.NumFault.{NumFault}
use Rattle.reql_datum.specs.declared.whole.NumFault.TheVariants.{OverRange, ZeroDivisor, NotWhole}

-- the number where it is in the range
abbrev pub held : ℤ → Result ℤ NumFault
held n = cond (is_in n) (Ok n) (Err OverRange)

abbrev pub remainder : ℤ → ℤ → Result ℤ NumFault
remainder a b = cond (int_eq b (pos 0)) (Err ZeroDivisor) (Ok (int_rem a b))

-- the quotient where nothing is left
abbrev pub quotient : ℤ → ℤ → Result ℤ NumFault
quotient a b = cond (int_eq b (pos 0)) (Err ZeroDivisor) (cond (int_eq (int_rem a b) (pos 0)) (held (int_div a b)) (Err NotWhole))
