-- What a feed follows, read from the term that it was asked with (changefeed documentation; ReQL API reference: get, getAll, between,
-- orderBy, limit). A term that is not of the feed's kind, or that faults whatever the documents are, follows nothing.
use Rattle.std.specs.Prelude.{ℕ, nat_eq, List, [], ◌∷◌, Bool, true, false, ◌&&◌, if◌then◌else◌, Option, Some, None, is_some, Ok, Err, codes}
use Rattle.std.specs.List.{list_all}
use Rattle.std.specs.Option.{unwrap_or}
use Rattle.reql_datum.specs.Answer.{Answer, ◌>>=◌}
use Rattle.reql_datum.specs.Keys.{is_key}
use Rattle.reql_datum.specs.Members.{find}
use Rattle.reql_datum.specs.Plain.{Plain}
use Rattle.reql_rules.specs.Faults.{misplaced}
use Rattle.reql_rules.specs.Lists.{Bytes}
use Rattle.reql_rules.specs.Types.{same_text, wanted, as_text}
use Rattle.reql_term.specs.Form.{Form, literal, slot, operation, Forms, no_forms, form, NamedForms, no_named, named}
use Rattle.reql_term.specs.Table.{takes}
use Rattle.reql_term.specs.Views.{Index}
use Rattle.reql_term.specs.declared.op.Op.{Op}
use Rattle.reql_term.specs.declared.op.Op.TheVariants as op
use Rattle.reql_value_spec.specs.Meaning.{value}
use Rattle.reql_value_spec.specs.Meant.{Options, given}
use Rattle.reql_value_spec.specs.Shapes.{is_stage}
use Rattle.reql_value_spec.specs.Tables.{key_if, may_bound}
use Rattle.reql_value_spec.specs.Wanted.{to_datum, left_is_open, right_is_open}
use Rattle.reql_value_spec.specs.World.{bare_world}
use Rattle.reql_write_spec.specs.Selecting.{slots}
use Rattle.reql_feed_spec.specs.Kept.{Kept, by_key, by_shape, by_index, by_primary, of_no_kind, is_free}
use Rattle.reql_feed_spec.specs.Shown.{place_of}
use Rattle.reql_feed_spec.specs.Watched.{Part, whole, between}
use Rattle.reql_feed_spec.specs.declared.kind.FeedKind.{FeedKind}
use Rattle.reql_feed_spec.specs.declared.kind.FeedKind.TheVariants as kinds
use Rattle.reql_table_spec.specs.Indexes.{Indexes}
use Rattle.reql_table_spec.specs.declared.command.FeedSpec.{FeedSpec}

-- ---- parts of terms
abbrev pub arguments : Forms → List Form
arguments no_forms = []
arguments (form f fs) = f ∷ arguments fs

abbrev pub options : NamedForms → List (Bytes × Form)
options no_named = []
options (named k f ms) = (k, f) ∷ options ms

-- an argument that reads no table and no variable from outside has one value
abbrev pub closed_value : Form → Answer Plain
closed_value f = if is_free [] f then value f bare_world [] >>= to_datum else Err misplaced

abbrev pub closed_options : List (Bytes × Form) → Answer Options
closed_options [] = Ok []
closed_options (m ∷ ms) = do
  d ← if is_free [] m.1 then value m.1 bare_world [] else Err misplaced
  os ← closed_options ms
  Ok ((m.0, given d) ∷ os)

-- a literal text, and a literal count
abbrev pub literal_name : Form → Answer Bytes
literal_name (literal d) = as_text d
literal_name f = Err misplaced

abbrev pub literal_count : Form → Answer ℕ
literal_count (literal d) = wanted misplaced (place_of d)
literal_count f = Err misplaced

-- the index that an option names, or none
abbrev pub literal_index : Option Form → Answer (Option Bytes)
literal_index None = Ok None
literal_index (Some f) = literal_name f >>= λ name. Ok (Some name)

abbrev pub index_in : NamedForms → Answer (Option Bytes)
index_in ms = literal_index (find (codes "index") (options ms))

abbrev pub is_same : Option Bytes → Option Bytes → Bool
is_same None None = true
is_same (Some m) (Some n) = same_text m n
is_same m n = false

-- the name of the key field is the primary order
abbrev pub index_by : Bytes → Option Bytes → Bytes
index_by key index = unwrap_or index key

-- ---- a point feed: GET of a key on the table, with no index
abbrev pub is_get : Op → Bool
is_get op.Get = true
is_get o = false

abbrev pub key_of_get : List Form → Answer Plain
key_of_get (slot n ∷ k ∷ []) = closed_value k >>= key_if is_key
key_of_get fs = Err misplaced

abbrev pub point_key : Option Bytes → Form → Answer Plain
point_key None (operation o fs no_named) = if is_get o then key_of_get (arguments fs) else Err misplaced
point_key index f = Err misplaced

-- ---- a range feed: stages over the table, or over BETWEEN or GET_ALL of it, by the index of the request
abbrev pub first_slot : List ℕ → ℕ
first_slot [] = 0
first_slot (n ∷ ns) = n

abbrev mutual
  pub shape_index : Form → Answer (Option Bytes)
  shape_index (operation o fs ms) = if is_stage o then first_index fs else index_in ms
  shape_index f = Ok None

  pub first_index : Forms → Answer (Option Bytes)
  first_index no_forms = Err misplaced
  first_index (form f fs) = shape_index f

abbrev pub range_shape : FeedSpec → Indexes → Answer Kept
range_shape spec indexes = do
  index ← shape_index spec.shape
  if is_same index spec.index then Ok (by_shape spec.key indexes (first_slot (slots spec.shape)) spec.shape) else Err misplaced

-- ---- a limit feed: LIMIT of ORDER_BY by an index, and by no further key, on the table or on BETWEEN by the same index
abbrev pub is_limit : Op → Bool
is_limit op.Limit = true
is_limit o = false

abbrev pub is_order : Op → Bool
is_order op.OrderBy = true
is_order o = false

abbrev pub is_between : Op → Bool
is_between op.Between = true
is_between o = false

-- BETWEEN's bounds, by its options
abbrev pub bounds : Form → Form → List (Bytes × Form) → Answer Part
bounds l h ms = do
  bottom ← closed_value l >>= key_if may_bound
  top ← closed_value h >>= key_if may_bound
  os ← closed_options ms
  bottom_open ← left_is_open os
  top_open ← right_is_open os
  if list_all (λ (m : Bytes × Form). takes op.Between m.0) ms then Ok (between bottom bottom_open top top_open) else Err misplaced

abbrev pub part_between : Bytes → Bytes → List Form → NamedForms → Answer Part
part_between key name (slot n ∷ l ∷ h ∷ []) ms = do
  index ← index_in ms
  if same_text (index_by key index) name then bounds l h (options ms) else Err misplaced
part_between key name fs ms = Err misplaced

-- the documents that are put in order by the index of this name
abbrev pub part_of : Bytes → Bytes → Form → Answer Part
part_of key name (slot n) = Ok whole
part_of key name (operation o fs ms) = if is_between o then part_between key name (arguments fs) ms else Err misplaced
part_of key name f = Err misplaced

-- the name of an index, or ASC or DESC of one
abbrev pub direction : Op → Answer Bool
direction op.Asc = Ok false
direction op.Desc = Ok true
direction o = Err misplaced

abbrev pub only_name : List Form → Answer Bytes
only_name (f ∷ []) = literal_name f
only_name fs = Err misplaced

abbrev pub order_index : Form → Answer (Bytes × Bool)
order_index (operation o fs no_named) = do
  down ← direction o
  name ← only_name (arguments fs)
  Ok (name, down)
order_index f = literal_name f >>= λ name. Ok (name, false)

-- the part, the index and the direction of an order
pub record Ordered : Type 0 where
  pub part : Part
  pub name : Bytes
  pub down : Bool

abbrev pub order_over : Bytes → List Form → List (Bytes × Form) → Answer Ordered
order_over key (f ∷ []) (m ∷ []) = do
  i ← if same_text m.0 (codes "index") then order_index m.1 else Err misplaced
  part ← part_of key i.0 f
  Ok (record { part = part; name = i.0; down = i.1 })
order_over key fs ms = Err misplaced

abbrev pub order_of : Bytes → Form → Answer Ordered
order_of key (operation o fs ms) = if is_order o then order_over key (arguments fs) (options ms) else Err misplaced
order_of key f = Err misplaced

abbrev pub first_over : Bytes → List Form → Answer (Ordered × ℕ)
first_over key (f ∷ c ∷ []) = do
  o ← order_of key f
  count ← literal_count c
  Ok (o, count)
first_over key fs = Err misplaced

abbrev pub first_by : Bytes → Form → Answer (Ordered × ℕ)
first_by key (operation o fs no_named) = if is_limit o then first_over key (arguments fs) else Err misplaced
first_by key f = Err misplaced

abbrev pub kept_order : Ordered → ℕ → Option Index → Answer Kept
kept_order o count None = Err misplaced
kept_order o count (Some i) = Ok (by_index i o.part o.down count)

-- by the index of the request, which may be the primary order
abbrev pub order_in : FeedSpec → Indexes → Ordered → ℕ → Answer Kept
order_in spec indexes o most = if same_text o.name spec.key then Ok (by_primary o.part o.down most) else kept_order o most (find o.name indexes)

abbrev pub is_asked : FeedSpec → Ordered → ℕ → ℕ → Bool
is_asked spec o count most = nat_eq count most && is_same (Some o.name) spec.index

abbrev pub first_shape : FeedSpec → Indexes → ℕ → Answer Kept
first_shape spec indexes most = do
  f ← first_by spec.key spec.shape
  if is_asked spec f.0 f.1 most then order_in spec indexes f.0 most else Err misplaced

-- ---- by kind
abbrev pub shape_by : FeedKind → FeedSpec → Indexes → Answer Kept
shape_by kinds.Point spec indexes = point_key spec.index spec.shape >>= λ key. Ok (by_key key)
shape_by kinds.Range spec indexes = range_shape spec indexes
shape_by (kinds.Limit n) spec indexes = first_shape spec indexes n

abbrev pub or_nothing : FeedKind → Answer Kept → Kept
or_nothing kind (Ok k) = k
or_nothing kind (Err e) = of_no_kind kind

-- with the definition of its index that stood when it was opened
abbrev pub followed : FeedSpec → Indexes → Kept
followed spec indexes = or_nothing spec.kind (shape_by spec.kind spec indexes)
