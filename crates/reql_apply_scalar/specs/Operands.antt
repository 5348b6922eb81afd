-- What arithmetic wants of each of its arguments, which is told before any arithmetic; and a call on arguments.
use Rattle.std.specs.Prelude.{ℤ, List, [], ◌∷◌, Option, Some, None, option_and_then, Ok, Err}
use Rattle.reql_datum.specs.Answer.{Answer, ◌>>=◌}
use Rattle.reql_datum.specs.Plain.{Plain, array, number, time, text}
use Rattle.reql_rules.specs.Faults.{misplaced}
use Rattle.reql_rules.specs.Lists.{array_of}
use Rattle.reql_rules.specs.Numbers.{arith}
use Rattle.reql_rules.specs.declared.words.Arith.{Arith}
use Rattle.reql_rules.specs.declared.words.Arith.TheVariants.{Add, Sub}
use Rattle.reql_value_spec.specs.Called.{answer}
use Rattle.reql_value_spec.specs.Meant.{Meant, Given, Calls}
use Rattle.reql_value_spec.specs.Scalars.{time_in}
use Rattle.reql_value_spec.specs.Wanted.{seen, as_data, as_number, as_text, as_array}
use Rattle.reql_apply_scalar.specs.declared.adding.Want.{Want}
use Rattle.reql_apply_scalar.specs.declared.adding.Want.TheVariants.{Numbers, Texts, Arrays, OneTime, TwoTimes}

-- by the first argument
abbrev pub added_to : Option Plain → Want
added_to (Some (text s)) = Texts
added_to (Some (array vs)) = Arrays
added_to (Some (time t)) = OneTime
added_to v = Numbers

abbrev pub taken_from : Option Plain → Want
taken_from (Some (time t)) = TwoTimes
taken_from v = Numbers

abbrev pub want_of : Arith → Option Plain → Want
want_of Add v = added_to v
want_of Sub v = taken_from v
want_of op v = Numbers

-- what is wanted after an argument
abbrev pub after_time : Want → Want
after_time TwoTimes = OneTime
after_time w = Numbers

abbrev pub after : Want → Plain → Want
after w (time t) = after_time w
after w d = w

-- a time, or else a number
abbrev pub timed : Option (ℤ × ℤ) → Answer ℤ → Answer Plain
timed (Some t) n = Ok (time t)
timed None n = n >>= λ m. Ok (number m)

abbrev pub operand : Want → Given → Answer Plain
operand Numbers g = as_number g >>= λ n. Ok (number n)
operand Texts g = as_text g >>= λ s. Ok (text s)
operand Arrays g = as_array g >>= λ vs. Ok (array_of vs)
operand OneTime g = timed (option_and_then time_in (seen g)) (as_number g)
operand TwoTimes g = timed (option_and_then time_in (seen g)) (as_number g)

abbrev pub operands : Want → List Given → Answer (List Plain)
operands w [] = Ok []
operands w (g ∷ gs) = do
  d ← operand w g
  ds ← operands (after w d) gs
  Ok (d ∷ ds)

-- arithmetic on the plain values that the arguments are
abbrev pub run : Arith → Want → List Given → Answer Plain
run op w gs = operands w gs >>= arith op

abbrev pub on_operands : Arith → List Given → Answer Plain
on_operands op [] = Err misplaced
on_operands op (g ∷ gs) = run op (want_of op (seen g)) (g ∷ gs)

abbrev pub called_with : Calls → Given → List Given → Answer Meant
called_with calls f gs = as_data gs >>= λ ds. answer calls f ds
