-- OBJECT by its arguments two by two.
use Rattle.std.specs.Prelude.{List, [], ◌∷◌, Bool, true, false, if◌then◌else◌, Err}
use Rattle.reql_datum.specs.Answer.{Answer, ◌>>=◌}
use Rattle.reql_datum.specs.Plain.{Plain}
use Rattle.reql_rules.specs.Faults.{misplaced}
use Rattle.reql_rules.specs.Lists.{Bytes}
use Rattle.reql_rules.specs.Objects.{put_each, put_new, object_by}
use Rattle.reql_value_spec.specs.Fields.{named_value}
use Rattle.reql_value_spec.specs.Meant.{Given}

abbrev pub are_pairs : List Given → Bool
are_pairs [] = true
are_pairs (k ∷ []) = false
are_pairs (k ∷ v ∷ gs) = are_pairs gs

-- those that are two by two
abbrev pub paired : List Given → List (Given × Given)
paired (k ∷ v ∷ gs) = (k, v) ∷ paired gs
paired gs = []

-- the members put after others
abbrev pub put_pairs : List (Bytes × Plain) → List Given → Answer (List (Bytes × Plain))
put_pairs ms gs = put_each named_value ms (paired gs)

abbrev pub object_of_pairs : List Given → Answer Plain
object_of_pairs gs = if are_pairs gs then object_by named_value (paired gs) else Err misplaced

-- one more member
abbrev pub put_one : List (Bytes × Plain) → Given → Given → Answer (List (Bytes × Plain))
put_one ms k v = do
  m ← named_value (k, v)
  put_new m.0 m.1 ms
