-- Function positions: a function is called, and anything else is constant; as a key a constant text takes the field of that name
-- (ReQL API reference: functions as arguments).
use Rattle.std.specs.Prelude.{List, [], ◌∷◌, Bool, true, false, Option, Some, None, option_and_then, Ok}
use Rattle.reql_datum.specs.Answer.{Answer, ◌>>=◌}
use Rattle.reql_datum.specs.Plain.{Plain, boolean}
use Rattle.reql_rules.specs.Fields.{get_field}
use Rattle.reql_rules.specs.Types.{truth, same, text_in}
use Rattle.reql_rules.specs.Lists.{Bytes, array_of}
use Rattle.reql_value_spec.specs.Matching.{fits}
use Rattle.reql_value_spec.specs.World.{World}
use Rattle.reql_value_spec.specs.Meant.{Meant, Given, callee, Calls, meant_of}
use Rattle.reql_value_spec.specs.Wanted.{to_datum, to_sequence, value_in}

abbrev pub answer : Calls → Given → List Plain → Answer Meant
answer calls (callee makes_object at) ds = calls at ds
answer calls g ds = Ok (meant_of g)

abbrev pub answer_datum : Calls → Given → List Plain → Answer Plain
answer_datum calls g ds = answer calls g ds >>= to_datum

abbrev pub answer_one : Calls → Given → Plain → Answer Plain
answer_one calls g d = answer_datum calls g (d ∷ [])

abbrev pub answer_two : Calls → Given → Plain → Plain → Answer Plain
answer_two calls g d e = answer_datum calls g (d ∷ e ∷ [])

-- any sequence, as an array
abbrev pub answer_items : World → Calls → Given → Plain → Answer Plain
answer_items w calls g d = do
  m ← answer calls g (d ∷ [])
  ds ← to_sequence w m
  Ok (array_of ds)

-- keys

abbrev pub field_or_constant : Option Bytes → Meant → Plain → Answer Plain
field_or_constant None m d = to_datum m
field_or_constant (Some name) m d = get_field name d

abbrev pub constant_key : Meant → Plain → Answer Plain
constant_key m d = field_or_constant (option_and_then text_in (value_in m)) m d

-- a function is called
abbrev pub answer_key : Calls → Given → Plain → Answer Plain
answer_key calls (callee makes_object at) d = answer_one calls (callee makes_object at) d
answer_key calls g d = constant_key (meant_of g) d

-- equal to a constant, or a function is true on it
abbrev pub passes : Calls → Given → Plain → Answer Bool
passes calls (callee makes_object at) d = answer_one calls (callee makes_object at) d >>= λ e. Ok (truth e)
passes calls g d = to_datum (meant_of g) >>= λ e. Ok (same e d)

-- whether what is given for an element may be a pattern that it has to fit: a constant, and what a function gives whose body is an object
abbrev pub gives_pattern : Given → Bool
gives_pattern (callee makes_object at) = makes_object
gives_pattern g = true

-- the test of FILTER on an element, by what is given for it
abbrev pub judged : Bool → Plain → Plain → Answer Plain
judged true p d = fits p d >>= λ b. Ok (boolean b)
judged false p d = Ok p

abbrev pub answer_test : Calls → Given → Plain → Answer Plain
answer_test calls g d = answer_one calls g d >>= λ p. judged (gives_pattern g) p d
