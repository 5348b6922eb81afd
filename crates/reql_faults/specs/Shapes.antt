-- The terms that a changefeed may follow (`changes`): a row, what a range of a table gives through stages that look at one document each,
-- the first ones by an index, and several ranges at once. A table stands there by its names or, once they are looked up, by its slot.
use Rattle.std.specs.Prelude.{ℕ, List, [], ◌∷◌, Option, Some, None, Bool, true, false, ◌&&◌, not, nat_le, is_some, codes}
use Rattle.std.specs.Ordering.{is_eq}
use Rattle.reql_datum.specs.Members.{text_order}
use Rattle.reql_term.specs.Form.{Form, slot, operation, Forms, no_forms, form, NamedForms}
use Rattle.reql_term.specs.declared.op.Op.{Op}
use Rattle.reql_term.specs.declared.op.Op.TheVariants as op
use Rattle.reql_faults.specs.declared.shape.Shape.{Shape}
use Rattle.reql_faults.specs.declared.shape.Shape.TheVariants as shapes
use Rattle.reql_faults.specs.declared.part.Part.{Part}
use Rattle.reql_faults.specs.declared.part.Part.TheVariants as part
use Rattle.reql_faults.specs.Places.{text_in, text_at, first, count, option}

-- what an operator is in such a term
abbrev pub part_of : Op → Part
part_of op.Table = part.Table
part_of op.Get = part.Row
part_of op.Between = part.Between
part_of op.GetAll = part.Keys
part_of op.Filter = part.Stage
part_of op.Map = part.Stage
part_of op.Pluck = part.Stage
part_of op.Without = part.Stage
part_of op.Merge = part.Stage
part_of op.HasFields = part.Stage
part_of op.WithFields = part.Stage
part_of op.OrderBy = part.Order
part_of op.Asc = part.Direction
part_of op.Desc = part.Direction
part_of op.Limit = part.Limit
part_of op.Union = part.Union
part_of o = part.Other

abbrev pub is_table_part : Part → Bool
is_table_part part.Table = true
is_table_part p = false

abbrev pub is_table : Form → Bool
is_table (slot n) = true
is_table (operation o fs ms) = is_table_part (part_of o)
is_table f = false

abbrev pub is_table_at : Option Form → Bool
is_table_at None = false
is_table_at (Some f) = is_table f

-- a table, or BETWEEN or GET_ALL on one, and any number of stages after it
abbrev pub range_by : Part → Bool → Bool → Bool
range_by part.Table on_table on_range = true
range_by part.Between on_table on_range = on_table
range_by part.Keys on_table on_range = on_table
range_by part.Stage on_table on_range = on_range
range_by p on_table on_range = false

abbrev mutual
  pub is_range : Form → Bool
  is_range (slot n) = true
  is_range (operation o fs ms) = range_by (part_of o) (is_table_at (first fs)) (is_first_range fs)
  is_range f = false

  pub is_first_range : Forms → Bool
  is_first_range no_forms = false
  is_first_range (form f fs) = is_range f

-- the literal name that an order goes by, which may stand under ASC or DESC
abbrev pub name_by : Part → Option Form → Option (List ℕ)
name_by part.Direction f = text_at f
name_by p f = None

abbrev pub order_name : Form → Option (List ℕ)
order_name (operation o fs ms) = name_by (part_of o) (first fs)
order_name f = text_in f

abbrev pub order_name_at : Option Form → Option (List ℕ)
order_name_at None = None
order_name_at (Some f) = order_name f

-- two literal names that differ
abbrev pub differ : Option (List ℕ) → Option (List ℕ) → Bool
differ None b = false
differ (Some a) None = false
differ (Some a) (Some b) = not (is_eq (text_order a b))

-- an order by an index, and no further keys, of a table or of BETWEEN on one by the same index
abbrev pub source_by : Part → Option (List ℕ) → Option Form → Option Form → Bool
source_by part.Table name f index = true
source_by part.Between name f index = is_table_at f && not (differ name (text_at index))
source_by p name f index = false

abbrev pub is_source : Option (List ℕ) → Form → Bool
is_source name (slot n) = true
is_source name (operation o fs ms) = source_by (part_of o) name (first fs) (option (codes "index") ms)
is_source name f = false

abbrev pub order_over : Option Form → Forms → Bool
order_over None fs = false
order_over (Some index) no_forms = false
order_over (Some index) (form f no_forms) = is_source (order_name index) f
order_over (Some index) (form f (form g gs)) = false

abbrev pub order_by : Part → Forms → NamedForms → Bool
order_by part.Order fs ms = order_over (option (codes "index") ms) fs
order_by p fs ms = false

abbrev pub is_order : Form → Bool
is_order (operation o fs ms) = order_by (part_of o) fs ms
is_order f = false

abbrev pub is_order_at : Option Form → Bool
is_order_at None = false
is_order_at (Some f) = is_order f

-- 2 to 16 ranges
abbrev pub are_ranges : Forms → Bool
are_ranges no_forms = true
are_ranges (form f fs) = is_range f && are_ranges fs

abbrev pub are_arms : Forms → Bool
are_arms fs = nat_le 2 (count fs) && (nat_le (count fs) 16 && are_ranges fs)

abbrev pub shape_if : Shape → Bool → Option Shape
shape_if s true = Some s
shape_if s false = None

abbrev pub shape_by : Part → Forms → Bool → Option Shape
shape_by part.Row fs range = shape_if shapes.Point (is_table_at (first fs))
shape_by part.Limit fs range = shape_if shapes.Limit (is_order_at (first fs))
shape_by part.Union fs range = shape_if shapes.United (are_arms fs)
shape_by p fs range = shape_if shapes.Range range

abbrev pub shape : Form → Option Shape
shape (slot n) = Some shapes.Range
shape (operation o fs ms) = shape_by (part_of o) fs (is_range (operation o fs ms))
shape f = None

abbrev pub shape_at : Option Form → Option Shape
shape_at None = None
shape_at (Some f) = shape f
