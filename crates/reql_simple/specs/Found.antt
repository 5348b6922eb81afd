-- What a simple term stands for, and what two documents give.
use Rattle.std.specs.Prelude.{ℤ, Bool, not, if◌then◌else◌, Option, Some, None, Result, option_and_then}
use Rattle.std.specs.Ordering.{is_eq, is_lt, is_le, is_gt, is_ge}
use Rattle.std.specs.declared.cmp.Ordering.{Ordering}
use Rattle.reql_datum.specs.Arithmetic.{quotient, remainder}
use Rattle.reql_datum.specs.Members.{find}
use Rattle.reql_datum.specs.Plain.{Plain, boolean, number, text}
use Rattle.reql_datum.specs.View.{plain}
use Rattle.reql_datum.specs.declared.whole.NumFault.{NumFault}
use Rattle.reql_rules.specs.Numbers.{Step, plus, minus, times}
use Rattle.reql_rules.specs.Types.{object_in}
use Rattle.reql_rules.specs.declared.words.Arith.{Arith}
use Rattle.reql_rules.specs.declared.words.Arith.TheVariants.{Add, Sub, Mul, Div, Mod}
use Rattle.reql_rules.specs.declared.words.Relate.{Relate}
use Rattle.reql_rules.specs.declared.words.Relate.TheVariants.{Eq, Ne, Lt, Le, Gt, Ge}
use Rattle.reql_simple.specs.declared.lying.Found.{Found}
use Rattle.reql_simple.specs.declared.lying.Found.TheVariants as f

abbrev pub document : Found → Plain
document (f.Lying d) = plain d.now
document (f.Truth b) = boolean b
document (f.Number n) = number n

-- a comparison, by how two stand in the order of plain values
abbrev pub stands : Relate → Ordering → Bool
stands Eq o = is_eq o
stands Ne o = not (is_eq o)
stands Lt o = is_lt o
stands Le o = is_le o
stands Gt o = is_gt o
stands Ge o = is_ge o

abbrev pub step_of : Arith → Step
step_of Add = plus
step_of Sub = minus
step_of Mul = times
step_of Div = quotient
step_of Mod = remainder

-- the field of an object by a text
abbrev pub field_of : Plain → Plain → Option Plain
field_of d (text s) = option_and_then (find s) (object_in d)
field_of d e = None
