-- OBJECT, KEYS and VALUES (ReQL API reference: object, keys, values), and objects from pairs.
use Rattle.std.specs.Prelude.{List, [], ◌∷◌, map, Bool, ◌||◌, if◌then◌else◌, is_some, Ok, Err}
use Rattle.reql_datum.specs.Answer.{Answer, ◌>>=◌}
use Rattle.reql_datum.specs.Members.{find, put}
use Rattle.reql_datum.specs.Kinds.{reserved}
use Rattle.reql_datum.specs.Plain.{Plain, text}
use Rattle.reql_rules.specs.Lists.{Bytes, array_of, object_of}
use Rattle.reql_rules.specs.Faults.{bad_name_in_object}
use Rattle.reql_rules.specs.Types.{same_text}

-- a name that is there already, or the reserved one
abbrev pub is_bad_name : Bytes → List (Bytes × Plain) → Bool
is_bad_name k ms = same_text k reserved || is_some (find k ms)

abbrev pub put_new : Bytes → Plain → List (Bytes × Plain) → Answer (List (Bytes × Plain))
put_new k v ms = if is_bad_name k ms then Err bad_name_in_object else Ok (put k v ms)

module _ {A : Type 0} where
  -- the members that f takes from each, put in one after another
  abbrev pub put_each : (A → Answer (Bytes × Plain)) → List (Bytes × Plain) → List A → Answer (List (Bytes × Plain))
  put_each f ms [] = Ok ms
  put_each f ms (x ∷ xs) = do
    m ← f x
    ns ← put_new m.0 m.1 ms
    put_each f ns xs

  abbrev pub object_by : (A → Answer (Bytes × Plain)) → List A → Answer Plain
  object_by f xs = do
    ms ← put_each f [] xs
    Ok (object_of ms)

abbrev pub object_from : List (Bytes × Plain) → Answer Plain
object_from ms = object_by (λ m. Ok m) ms

abbrev pub keys : List (Bytes × Plain) → Plain
keys ms = array_of (map (λ m. text m.0) ms)

abbrev pub values : List (Bytes × Plain) → Plain
values ms = array_of (map (λ m. m.1) ms)

abbrev pub as_pair : Bytes × Plain → Plain
as_pair m = array_of (text m.0 ∷ m.1 ∷ [])

abbrev pub pairs : List (Bytes × Plain) → Plain
pairs ms = array_of (map as_pair ms)
