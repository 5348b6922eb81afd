-- Pairs of a text and a value, put into an object.
use Rattle.std.specs.Prelude.{List, [], ◌∷◌, Option, Some, None, codes, map}
use Rattle.reql_datum.specs.Answer.{Answer, ◌>>=◌}
use Rattle.reql_datum.specs.Plain.{Plain, text}
use Rattle.reql_datum.specs.View.{plain}
use Rattle.reql_datum.specs.declared.datum.Datum.{Datum}
use Rattle.reql_rules.specs.Lists.{Bytes}
use Rattle.reql_rules.specs.Coercing.{coerced, pair_in}
use Rattle.reql_rules.specs.Objects.{put_each, put_new}

abbrev pub named : Plain → Plain → Option (Bytes × Plain)
named (text k) v = Some (k, v)
named u v = None

abbrev pub two_in : List Plain → Option (Bytes × Plain)
two_in (u ∷ v ∷ []) = named u v
two_in vs = None

abbrev pub pair_of : Bytes → Plain → Answer (Bytes × Plain)
pair_of kind v = coerced kind (codes "object") (pair_in v)

abbrev pub put_pair : Bytes → Plain → List (Bytes × Plain) → Answer (List (Bytes × Plain))
put_pair kind v ms = pair_of kind v >>= λ m. put_new m.0 m.1 ms

abbrev pub put_pairs : Bytes → List (Bytes × Plain) → List Plain → Answer (List (Bytes × Plain))
put_pairs kind ms vs = put_each (pair_of kind) ms vs

-- the members that names and documents stand for
abbrev pub gathered : List (Bytes × Datum) → List (Bytes × Plain)
gathered es = map (λ e. (e.0, plain e.1)) es
