-- PLUCK, WITHOUT and MERGE of one object.
use Rattle.std.specs.Prelude.{List, [], ◌∷◌, map, Ok}
use Rattle.reql_datum.specs.Answer.{Answer, ◌>>=◌}
use Rattle.reql_datum.specs.Plain.{Plain, array, listed}
use Rattle.reql_rules.specs.Lists.{Bytes, object_of}
use Rattle.reql_rules.specs.Merging.{merge}
use Rattle.reql_rules.specs.Patterns.{as_pattern, pluck, without}
use Rattle.reql_value_spec.specs.Called.{answer}
use Rattle.reql_value_spec.specs.Fields.{having, merged_on}
use Rattle.reql_value_spec.specs.Meant.{Given, Calls}
use Rattle.reql_value_spec.specs.Wanted.{to_object, as_datum}

-- the object that an argument gives on a value
abbrev pub object_answered : Calls → Given → Plain → Answer (List (Bytes × Plain))
object_answered calls g d = answer calls g (d ∷ []) >>= to_object

abbrev pub one_merged : Calls → Given → Plain → Answer Plain
one_merged calls g d = object_answered calls g d >>= λ ms. Ok (merge d (object_of ms))

-- an argument as a pattern
abbrev pub pattern_given : Given → Answer Plain
pattern_given g = as_datum g >>= as_pattern

-- the patterns of one that is the array of them
abbrev pub named_in : Plain → List Plain
named_in (array ps) = listed ps
named_in p = []

-- PLUCK and WITHOUT of one object
abbrev pub plucking : List Plain → Plain → Answer Plain
plucking ps d = Ok (pluck ps d)

abbrev pub leaving : List Plain → Plain → Answer Plain
leaving ps d = Ok (without ps d)

-- MERGE of one object
abbrev pub merging : Calls → List Given → Plain → Answer Plain
merging calls gs d = merged_on calls d gs

-- WITH_FIELDS of the elements
abbrev pub having_plucked : List Plain → List Plain → Answer (List Plain)
having_plucked ps ds = having ps ds >>= λ es. Ok (map (pluck ps) es)
