-- GET_FIELD, BRACKET, HAS_FIELDS, PLUCK, WITHOUT, WITH_FIELDS, MERGE, KEYS, VALUES and OBJECT (ReQL API reference: getField, bracket,
-- hasFields, pluck, without, withFields, merge, keys, values, object).
use Rattle.std.specs.Prelude.{List, [], ◌∷◌, Bool, map, if◌then◌else◌, Option, Some, Ok, Err, codes}
use Rattle.std.specs.Option.{unwrap_or}
use Rattle.reql_datum.specs.Answer.{Answer, ◌>>=◌}
use Rattle.reql_datum.specs.Kinds.{is_literal}
use Rattle.reql_datum.specs.Plain.{Plain, array, boolean, null, number, object, text, listed}
use Rattle.reql_rules.specs.Faults.{field_of_null, misplaced}
use Rattle.reql_rules.specs.Fields.{get_field, get_fields, on_each}
use Rattle.reql_rules.specs.Types as types
use Rattle.reql_rules.specs.Lists.{Bytes, each, each_joined, object_of}
use Rattle.reql_rules.specs.Merging.{merge}
use Rattle.reql_rules.specs.Objects.{keys, values, object_by}
use Rattle.reql_rules.specs.Patterns.{as_pattern, has_fields, pluck}
use Rattle.reql_rules.specs.Places.{nth}
use Rattle.reql_value_spec.specs.Called.{answer}
use Rattle.reql_value_spec.specs.Meant.{Meant, one, row, Given, Calls, Gives, Rule, is_nothing, meant_of}
use Rattle.reql_value_spec.specs.Sequenced.{like, datum}
use Rattle.reql_value_spec.specs.Wanted.{wrong, by_rows, to_object, as_datum, as_text, as_object, as_sequence, as_number, value_in}
use Rattle.reql_value_spec.specs.World.{World}

-- what fields are taken of: an object, or each element of a sequence
pub data Subject : Type 0 where
  object_alone : Plain → Subject
  elements : List Plain → Subject

abbrev pub datum_subject : Meant → Plain → Answer Subject
datum_subject m (object ms) = if is_literal ms then Err (wrong (codes "OBJECT") m) else Ok (object_alone (object ms))
datum_subject m (array vs) = Ok (elements (listed vs))
datum_subject m d = Err (wrong (codes "OBJECT") m)

abbrev pub subject_of : World → Meant → Answer Subject
subject_of w (one d) = datum_subject (one d) d
subject_of w (row n k d) = datum_subject (row n k d) (unwrap_or d null)
subject_of w m = by_rows w elements (Err (wrong (codes "OBJECT") m)) m

abbrev pub subject : World → Given → Answer Subject
subject w g = subject_of w (meant_of g)

-- a field of null is a fault of its own
abbrev pub field_subject : World → Given → Answer Subject
field_subject w g = if is_nothing (meant_of g) then Err field_of_null else subject w g

abbrev pub field_of : Meant → Bytes → Subject → Answer Meant
field_of m name (object_alone d) = get_field name d >>= λ v. Ok (one v)
field_of m name (elements ds) = get_fields name ds >>= λ vs. Ok (like m vs)

abbrev pub get_field_rule : Rule
get_field_rule w calls (g ∷ t ∷ []) opts = do
  s ← field_subject w g
  name ← as_text t
  field_of (meant_of g) name s
get_field_rule w calls gs opts = Err misplaced

-- the element at a place
abbrev pub nth_rule : Gives Plain
nth_rule w calls (s ∷ n ∷ []) opts = do
  ds ← as_sequence w s
  at ← as_number n
  nth ds at
nth_rule w calls gs opts = Err misplaced

-- a text takes a field, a number an element
abbrev pub bracket_by : Option Plain → Rule
bracket_by (Some (number n)) w calls gs opts = datum nth_rule w calls gs opts
bracket_by (Some (text s)) w calls gs opts = get_field_rule w calls gs opts
bracket_by d w calls (g ∷ t ∷ []) opts = Err (wrong (codes "STRING") (meant_of t))
bracket_by d w calls gs opts = Err misplaced

abbrev pub bracket : Rule
bracket w calls (g ∷ t ∷ []) opts = bracket_by (value_in (meant_of t)) w calls (g ∷ t ∷ []) opts
bracket w calls gs opts = Err misplaced

abbrev pub patterns : List Given → Answer (List Plain)
patterns gs = each (λ g. as_datum g >>= as_pattern) gs

abbrev pub has_all : List Plain → Plain → Answer Bool
has_all ps d = types.as_object d >>= λ ms. Ok (has_fields ps ms)

-- an element, if it has all; null has nothing
abbrev pub having_one : List Plain → Plain → Answer (List Plain)
having_one ps null = Ok []
having_one ps d = has_all ps d >>= λ b. Ok (if b then d ∷ [] else [])

abbrev pub having : List Plain → List Plain → Answer (List Plain)
having ps ds = each_joined (having_one ps) ds

abbrev pub has_fields_of : Meant → List Plain → Subject → Answer Meant
has_fields_of m ps (object_alone d) = has_all ps d >>= λ b. Ok (one (boolean b))
has_fields_of m ps (elements ds) = having ps ds >>= λ es. Ok (like m es)

abbrev pub has_fields_rule : Rule
has_fields_rule w calls (g ∷ gs) opts = do
  s ← field_subject w g
  ps ← patterns gs
  has_fields_of (meant_of g) ps s
has_fields_rule w calls [] opts = Err misplaced

abbrev pub with_fields : Gives (List Plain)
with_fields w calls (g ∷ gs) opts = do
  ds ← as_sequence w g
  ps ← patterns gs
  es ← having ps ds
  Ok (map (pluck ps) es)
with_fields w calls [] opts = Err misplaced

-- f on an object, or on each object of a sequence
abbrev pub on_subject : (Plain → Answer Plain) → Meant → Subject → Answer Meant
on_subject f m (object_alone d) = f d >>= λ e. Ok (one e)
on_subject f m (elements ds) = on_each f ds >>= λ es. Ok (like m es)

-- PLUCK and WITHOUT
abbrev pub by_patterns : (List Plain → Plain → Plain) → Rule
by_patterns f w calls (g ∷ gs) opts = do
  s ← subject w g
  ps ← patterns gs
  on_subject (λ d. Ok (f ps d)) (meant_of g) s
by_patterns f w calls [] opts = Err misplaced

-- each merged in, from left to right; a function gets the value so far
abbrev pub merged_on : Calls → Plain → List Given → Answer Plain
merged_on calls d [] = Ok d
merged_on calls d (g ∷ gs) = do
  m ← answer calls g (d ∷ [])
  ms ← to_object m
  merged_on calls (merge d (object_of ms)) gs

abbrev pub merge_rule : Rule
merge_rule w calls (g ∷ gs) opts = do
  s ← subject w g
  on_subject (λ d. merged_on calls d gs) (meant_of g) s
merge_rule w calls [] opts = Err misplaced

abbrev pub keys_rule : Gives Plain
keys_rule w calls (g ∷ []) opts = do
  ms ← as_object g
  Ok (keys ms)
keys_rule w calls gs opts = Err misplaced

abbrev pub values_rule : Gives Plain
values_rule w calls (g ∷ []) opts = do
  ms ← as_object g
  Ok (values ms)
values_rule w calls gs opts = Err misplaced

-- the arguments two by two: a name and its value
abbrev pub pairs_given : List Given → Answer (List (Given × Given))
pairs_given [] = Ok []
pairs_given (k ∷ []) = Err misplaced
pairs_given (k ∷ v ∷ gs) = pairs_given gs >>= λ ps. Ok ((k, v) ∷ ps)

abbrev pub named_value : Given × Given → Answer (Bytes × Plain)
named_value p = do
  name ← as_text p.0
  d ← as_datum p.1
  Ok (name, d)

abbrev pub object_rule : Gives Plain
object_rule w calls gs opts = do
  ps ← pairs_given gs
  object_by named_value ps
