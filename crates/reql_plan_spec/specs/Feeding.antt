-- The feeds that CHANGES asks for: the term of each with the data of its arguments in their places, tested as its row says, and the options.
use Rattle.std.specs.Prelude.{ℕ, ℤ, pos, negsuc, List, [], ◌∷◌, map, Option, Some, None, option_and_then, Bool, true, false, ◌&&◌, if◌then◌else◌, nat_le, Ok, Err, codes}
use Rattle.std.specs.Option.{unwrap_or}
use Rattle.reql_datum.specs.Answer.{Answer, ◌>>=◌}
use Rattle.reql_datum.specs.Keys.{is_key}
use Rattle.reql_datum.specs.Kinds.{is_storable}
use Rattle.reql_datum.specs.Members.{find}
use Rattle.reql_datum.specs.Plain.{Plain, boolean, number}
use Rattle.reql_term.specs.Form.{Form, literal, operation, Forms, no_forms, form, NamedForms}
use Rattle.reql_term.specs.Table.{way_of}
use Rattle.reql_term.specs.Views.{Index}
use Rattle.reql_term.specs.declared.op.Op.{Op}
use Rattle.reql_term.specs.declared.op.Op.TheVariants as op
use Rattle.reql_term.specs.declared.role.Way.{Way}
use Rattle.reql_term.specs.declared.role.Way.TheVariants as way
use Rattle.reql_rules.specs.Faults.{misplaced, misplaced_order, bad_option, negative_count}
use Rattle.reql_rules.specs.Lists.{Bytes, each}
use Rattle.reql_rules.specs.Types.{same_text, text_in}
use Rattle.reql_faults.specs.Places.{first, second, option}
use Rattle.reql_faults.specs.Shapes.{shape}
use Rattle.reql_faults.specs.declared.shape.Shape.{Shape}
use Rattle.reql_faults.specs.declared.shape.Shape.TheVariants as shapes
use Rattle.reql_value_spec.specs.Meant.{one, given, callee, Given, Options}
use Rattle.reql_value_spec.specs.Tables.{key_if, may_bound}
use Rattle.reql_value_spec.specs.Wanted.{as_datum, as_number, index_text, left_is_open, right_is_open, seen}
use Rattle.reql_value_spec.specs.World.{World, view_at}
use Rattle.reql_write_spec.specs.Selecting.{slots}
use Rattle.reql_feed_spec.specs.declared.kind.FeedKind.{FeedKind}
use Rattle.reql_feed_spec.specs.declared.kind.FeedKind.TheVariants as kinds
use Rattle.reql_table_spec.specs.Followed.{first_slot, shape_index}
use Rattle.reql_plan_spec.specs.declared.parts.Opening.{Opening}
use Rattle.reql_plan_spec.specs.Held.{Held, key_of}
use Rattle.reql_plan_spec.specs.Reads.{args_of, options_of}
use Rattle.reql_plan_spec.specs.Settled.{Test, there, settled, options_given, truth_option}
use Rattle.reql_plan_spec.specs.Texts.{over_limit, multi_feed}

-- ---- the tests of a term whose arguments have their data, in the order of its row
-- what an argument or an optional one is, once it has its data; a function stands as it is, and is no datum
abbrev pub given_in : Form → Given
given_in (literal d) = given (one d)
given_in f = callee false 0

abbrev pub givens : List (Bytes × Form) → Options
givens ms = map (λ m. (m.0, given_in m.1)) ms

abbrev pub datum_at : Form → Answer Plain
datum_at f = as_datum (given_in f)

abbrev pub get_test : List Form → Answer (Unit {0})
get_test (t ∷ k ∷ []) = datum_at k >>= key_if is_key >>= λ _. Ok tt
get_test fs = Err misplaced

abbrev pub keys_test : List Form → List (Bytes × Form) → Answer (Unit {0})
keys_test [] ms = Err misplaced
keys_test (t ∷ ks) ms = do
  ds ← each datum_at ks
  _ ← each (key_if is_storable) ds
  _ ← index_text (givens ms)
  Ok tt

abbrev pub between_test : List Form → List (Bytes × Form) → Answer (Unit {0})
between_test (t ∷ l ∷ h ∷ []) ms = do
  low ← datum_at l
  high ← datum_at h
  _ ← key_if may_bound low
  _ ← key_if may_bound high
  _ ← index_text (givens ms)
  _ ← left_is_open (givens ms)
  _ ← right_is_open (givens ms)
  Ok tt
between_test fs ms = Err misplaced

abbrev pub natural : ℤ → Answer ℕ
natural (pos n) = if nat_le n 100000 then Ok n else Err over_limit
natural (negsuc n) = Err negative_count

abbrev pub count_in : Form → Answer ℕ
count_in f = as_number (given_in f) >>= natural

abbrev pub limit_test : List Form → Answer (Unit {0})
limit_test (f ∷ c ∷ []) = count_in c >>= λ _. Ok tt
limit_test fs = Err misplaced

abbrev pub row_test : Test
row_test op.Get fs ms = get_test fs
row_test op.GetAll fs ms = keys_test fs ms
row_test op.Between fs ms = between_test fs ms
row_test op.Limit fs ms = limit_test fs
row_test o fs ms = Ok tt

-- ---- the options, in the order of the row; those of `squash` and `include_offsets` are literals
pub record Told : Type 0 where
  pub size : ℕ
  pub initial : Bool
  pub states : Bool
  pub types : Bool
  pub offsets : Bool
  pub squash : Bool

abbrev pub literal_truth : Bytes → Option Form → Answer Bool
literal_truth name None = Ok false
literal_truth name (Some (literal (boolean b))) = Ok b
literal_truth name (Some f) = Err (bad_option name)

abbrev pub size_by : Option Plain → Answer ℕ
size_by (Some (number (pos n))) = if nat_le 1 n && nat_le n 1000000 then Ok n else Err (bad_option (codes "changefeed_queue_size"))
size_by d = Err (bad_option (codes "changefeed_queue_size"))

abbrev pub size_given : Option Given → Answer ℕ
size_given None = Ok 100000
size_given (Some g) = size_by (seen g)

abbrev pub told : NamedForms → Options → Answer Told
told ms os = do
  squash ← literal_truth (codes "squash") (option (codes "squash") ms)
  size ← size_given (find (codes "changefeed_queue_size") os)
  initial ← truth_option (codes "include_initial") os
  states ← truth_option (codes "include_states") os
  offsets ← literal_truth (codes "include_offsets") (option (codes "include_offsets") ms)
  types ← truth_option (codes "include_types") os
  Ok (record { size = size; initial = initial; states = states; types = types; offsets = offsets; squash = squash })

-- ---- the index of a limit feed
-- the name that an order goes by, which may stand under ASC or DESC
abbrev pub name_in : Form → Option Bytes
name_in (literal d) = text_in d
name_in f = None

abbrev pub is_direction : Way → Bool
is_direction way.Rising = true
is_direction way.Falling = true
is_direction w = false

abbrev pub name_under : Bool → Option Form → Option Bytes
name_under true (Some f) = name_in f
name_under d f = None

abbrev pub order_name : Form → Option Bytes
order_name (operation o fs ms) = name_under (is_direction (way_of o)) (first fs)
order_name f = name_in f

abbrev pub index_or : Option Bytes → Answer Bytes
index_or None = Err (bad_option (codes "index"))
index_or (Some name) = Ok name

abbrev pub name_of_order : Form → Answer Bytes
name_of_order f = there (option (codes "index") (options_of f)) >>= λ g. index_or (order_name g)

-- ORDER_BY's index is that of the BETWEEN under it, which is the key field where it names none
abbrev pub is_between : Op → Bool
is_between op.Between = true
is_between o = false

abbrev pub between_name : Bytes → Form → Option Bytes
between_name key (operation o fs ms) = if is_between o then Some (unwrap_or (option_and_then name_in (option (codes "index") ms)) key) else None
between_name key f = None

abbrev pub agrees : Bytes → Option Bytes → Answer (Unit {0})
agrees name None = Ok tt
agrees name (Some other) = if same_text name other then Ok tt else Err misplaced_order

-- no limit feed goes over a multi index; where its index isn't there, Subscribe tells
abbrev pub is_multi : Option Index → Bool
is_multi None = false
is_multi (Some i) = i.1

abbrev pub single : World → ℕ → Bytes → Answer (Unit {0})
single w n name = view_at w n >>= λ v. if is_multi (find name v.indexes) then Err multi_feed else Ok tt

-- the index that an order goes by, tested as that of a limit feed
abbrev pub limit_index : Held → Form → Answer Bytes
limit_index e order = do
  name ← name_of_order order
  f ← there (first (args_of order))
  _ ← agrees name (between_name (key_of e.names (first_slot (slots f))) f)
  _ ← single e.world (first_slot (slots f)) name
  Ok name

-- ---- the feeds, one for each arm
pub record Feeding : Type 0 where
  pub openings : List Opening
  pub note : ℕ
  pub told : Told

abbrev pub opening : Held → Told → Form → Option Bytes → FeedKind → Opening
opening e t f index kind = record {
  slot = first_slot (slots f);
  spec = record { key = key_of e.names (first_slot (slots f)); shape = f; index = index; kind = kind; size = t.size; offsets = t.offsets; types = t.types; squash = t.squash };
}

abbrev pub range_opening : Held → Told → Form → Answer Opening
range_opening e t f = shape_index f >>= λ index. Ok (opening e t f index kinds.Range)

abbrev pub range_openings : Held → Told → List Form → Answer (List Opening)
range_openings e t [] = Ok []
range_openings e t (f ∷ fs) = range_opening e t f >>= λ o. range_openings e t fs >>= λ os. Ok (o ∷ os)

abbrev pub limit_opening : Held → Told → Form → Answer Opening
limit_opening e t f = do
  order ← there (first (args_of f))
  name ← limit_index e order
  c ← there (second (args_of f))
  count ← count_in c
  Ok (opening e t f (Some name) (kinds.Limit count))

abbrev pub openings : Held → Told → Shape → List Form → Answer (List Opening)
openings e t shapes.Point (f ∷ []) = Ok (opening e t f None kinds.Point ∷ [])
openings e t shapes.Limit (f ∷ []) = limit_opening e t f >>= λ o. Ok (o ∷ [])
openings e t s fs = range_openings e t fs

-- the notes of answers (`ql2.proto`, Response.ResponseNote)
abbrev pub note_of : Shape → ℕ
note_of shapes.Range = 1
note_of shapes.Point = 2
note_of shapes.Limit = 3
note_of shapes.United = 4

abbrev pub feed_settled : Held → Form → Answer Form
feed_settled e f = settled row_test e.world f

abbrev pub all_settled : Held → Forms → Answer (List Form)
all_settled e no_forms = Ok []
all_settled e (form f fs) = feed_settled e f >>= λ g. all_settled e fs >>= λ gs. Ok (g ∷ gs)

-- the arms of a united feed are settled in order, and then the options of its UNION
abbrev pub followed : Held → Shape → Form → Answer (List Form)
followed e shapes.United f = all_settled e (args_of f) >>= λ gs. options_given e.world (options_of f) >>= λ _. Ok gs
followed e s f = feed_settled e f >>= λ g. Ok (g ∷ [])

abbrev pub shape_there : Option Shape → Answer Shape
shape_there None = Err misplaced
shape_there (Some s) = Ok s

abbrev pub feeding : Held → Forms → NamedForms → Answer Feeding
feeding e fs ms = do
  f ← there (first fs)
  s ← shape_there (shape f)
  gs ← followed e s f
  os ← options_given e.world ms
  t ← told ms os
  opened ← openings e t s gs
  Ok (record { openings = opened; note = note_of s; told = t })
