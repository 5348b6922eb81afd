-- GET_FIELD on values and sequences (ReQL API reference: getField, bracket), and what works on each object of a sequence.
use Rattle.std.specs.Prelude.{List, [], ◌∷◌, Option, Some, None, Ok, Err}
use Rattle.reql_datum.specs.Answer.{Answer, ◌>>=◌}
use Rattle.reql_datum.specs.Members.{find}
use Rattle.reql_datum.specs.Plain.{Plain, array, null, Plains, no_items, item, items_of}
use Rattle.reql_rules.specs.Lists.{Bytes, array_of, also}
use Rattle.reql_rules.specs.Faults.{field_of_null, no_attribute}
use Rattle.reql_rules.specs.Types.{as_object}

abbrev pub attribute : Bytes → Option Plain → Answer Plain
attribute name None = Err (no_attribute name)
attribute name (Some v) = Ok v

-- a field of each element that has it: null has none, and an array gives those of its elements
abbrev mutual
  pub field_in : Bytes → Plain → Answer (Option Plain)
  field_in name null = Ok None
  field_in name (array vs) = do
    ws ← fields_in name vs
    Ok (Some (array_of ws))
  field_in name v = do
    ms ← as_object v
    Ok (find name ms)

  pub fields_in : Bytes → Plains → Answer (List Plain)
  fields_in name no_items = Ok []
  fields_in name (item v vs) = do
    f ← field_in name v
    ws ← fields_in name vs
    Ok (also f ws)

abbrev pub get_field : Bytes → Plain → Answer Plain
get_field name null = Err field_of_null
get_field name (array vs) = do
  ws ← fields_in name vs
  Ok (array_of ws)
get_field name v = do
  ms ← as_object v
  attribute name (find name ms)

abbrev pub get_fields : Bytes → List Plain → Answer (List Plain)
get_fields name vs = fields_in name (items_of vs)

-- f on an object, or on each object of an array
abbrev mutual
  pub on_objects : (Plain → Answer Plain) → Plain → Answer Plain
  on_objects f (array vs) = do
    ws ← on_items f vs
    Ok (array_of ws)
  on_objects f v = do
    _ ← as_object v
    f v

  pub on_items : (Plain → Answer Plain) → Plains → Answer (List Plain)
  on_items f no_items = Ok []
  on_items f (item v vs) = do
    w ← on_objects f v
    ws ← on_items f vs
    Ok (w ∷ ws)

abbrev pub on_each : (Plain → Answer Plain) → List Plain → Answer (List Plain)
on_each f vs = on_items f (items_of vs)
