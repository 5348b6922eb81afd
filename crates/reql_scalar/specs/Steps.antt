-- Arithmetic in one walk: a step that failed is kept until all types are known.
use Rattle.std.specs.Prelude.{ℤ, List, Result, Ok, Err}
use Rattle.reql_datum.specs.Answer.{Answer, ◌>>=◌}
use Rattle.reql_datum.specs.Arithmetic.{remainder, quotient}
use Rattle.reql_datum.specs.Plain.{Plain}
use Rattle.reql_datum.specs.declared.whole.NumFault.{NumFault}
use Rattle.reql_rules.specs.Lists.{each}
use Rattle.reql_rules.specs.Faults.{number_fault}
use Rattle.reql_rules.specs.Numbers.{Step, plus, minus, times, run}
use Rattle.reql_rules.specs.Types.{as_number}
use Rattle.reql_rules.specs.declared.words.Arith.{Arith}
use Rattle.reql_rules.specs.declared.words.Arith.TheVariants.{Add, Sub, Mul, Div, Mod}

abbrev pub step_of : Arith → Step
step_of Add = plus
step_of Sub = minus
step_of Mul = times
step_of Div = quotient
step_of Mod = remainder

abbrev pub onward : Step → Result ℤ NumFault → ℤ → Result ℤ NumFault
onward step (Ok m) n = step m n
onward step (Err e) n = Err e

-- the steps over further numbers
abbrev pub on : Step → Result ℤ NumFault → List ℤ → Answer ℤ
on step (Ok n) ns = run step n ns
on step (Err e) ns = Err (number_fault e)

abbrev pub all_on : Step → Result ℤ NumFault → List Plain → Answer ℤ
all_on step so_far vs = each as_number vs >>= on step so_far
