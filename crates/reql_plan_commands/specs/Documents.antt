-- The one document that a value is.
use Rattle.std.specs.Prelude.{List, [], ◌∷◌, Ok}
use Rattle.reql_datum.specs.Answer.{Answer, ◌>>=◌}
use Rattle.reql_datum.specs.Plain.{Plain}
use Rattle.reql_rules.specs.Lists.{object_of}
use Rattle.reql_value_spec.specs.Meant.{Meant}
use Rattle.reql_value_spec.specs.Wanted.{to_object}

abbrev pub only : Meant → Answer (List Plain)
only m = to_object m >>= λ ms. Ok (object_of ms ∷ [])
