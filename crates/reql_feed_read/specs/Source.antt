-- The documents that a range shape reads, where the term below its stages says so: BETWEEN or GET_ALL of constants, by primary keys or by an index.
use Rattle.std.specs.Prelude.{◌≡◌, ℕ, List, [], ◌∷◌, length, Bool, true, false, if◌then◌else◌, Option, Some, None, option_map}
use Rattle.std.specs.List.{list_any}
use Rattle.std.specs.Ordering.{is_eq}
use Rattle.reql_datum.specs.Order.{order}
use Rattle.reql_datum.specs.Plain.{Plain, null}
use Rattle.reql_rules.specs.Lists.{Bytes, each}
use Rattle.reql_term.specs.Form.{Form, operation, Forms, no_forms, form, NamedForms}
use Rattle.reql_term.specs.Views.{Document, Index}
use Rattle.reql_term.specs.declared.op.Op.{Op}
use Rattle.reql_term.specs.declared.op.Op.TheVariants as op
use Rattle.reql_value_spec.specs.Index.{entries, plain_view}
use Rattle.reql_value_spec.specs.Shapes.{answered, is_stage, rows_over}
use Rattle.reql_value_spec.specs.World.{bare_world}
use Rattle.reql_feed_spec.specs.Watched.{Part, whole, lies_in}
use Rattle.reql_table_spec.specs.Followed.{arguments, closed_value, index_in}
use Rattle.reql_table_spec.specs.Indexes.{Indexes}
use Rattle.reql_feed_read.specs.Asked.{names_by, part_in}
use Rattle.reql_feed_read.specs.Shapes.{given, is_slot}

-- places of an order: a part of it, or some keys
pub data Places : Type 0 where
  in_part : Part → Places
  at_keys : List Plain → Places

-- the documents that have an entry there, in an index or (none) in the primary order
pub record Source : Type 0 where
  pub index : Option Index
  pub places : Places

abbrev pub holds : Places → Plain → Bool
holds (in_part part) v = lies_in part (v, (v, null))
holds (at_keys ks) v = list_any (λ j. is_eq (order j v)) ks

-- the values of a document's entries
abbrev pub values_by : Option Index → Document → List Plain
values_by None m = m.0 ∷ []
values_by (Some i) m = entries i m.1

abbrev pub may_hold : Source → Document → Bool
may_hold s m = list_any (holds s.places) (values_by s.index m)

-- where nothing is known of them, all
abbrev pub everything : Source
everything = record { index = None; places = in_part whole }

abbrev pub is_get_all : Op → Bool
is_get_all op.GetAll = true
is_get_all o = false

-- the keys that GET_ALL is given with a table, by the index of a name
abbrev pub keys_over : Forms → Option (List Plain)
keys_over no_forms = None
keys_over (form f fs) = if is_slot f then given (each closed_value (arguments fs)) else None

abbrev pub keys_in : Bytes → Bytes → Forms → NamedForms → Option (List Plain)
keys_in key name fs ms = if names_by key name (index_in ms) then keys_over fs else None

-- the places that GET_ALL or BETWEEN names by it
abbrev pub places_in : Bytes → Bytes → Op → Forms → NamedForms → Option Places
places_in key name o fs ms = if is_get_all o then option_map at_keys (keys_in key name fs ms) else option_map in_part (part_in key name (operation o fs ms))

-- by an order, or else another source
abbrev pub placed : Option Index → Option Places → Source → Source
placed i None other = other
placed i (Some p) other = record { index = i; places = p }

-- by the index that is kept with the request
abbrev pub index_source : Bytes → Indexes → Op → Forms → NamedForms → Source
index_source key [] o fs ms = everything
index_source key (d ∷ ds) o fs ms = placed (Some d.1) (places_in key d.0 o fs ms) everything

-- by primary keys, or by that index
abbrev pub base_source : Bytes → Indexes → Op → Forms → NamedForms → Source
base_source key indexes o fs ms = placed None (places_in key key o fs ms) (index_source key indexes o fs ms)

abbrev mutual
  pub source_in : Bytes → Indexes → Form → Source
  source_in key indexes (operation o fs ms) = if is_stage o then first_source key indexes fs else base_source key indexes o fs ms
  source_in key indexes f = everything

  pub first_source : Bytes → Indexes → Forms → Source
  first_source key indexes no_forms = everything
  first_source key indexes (form f fs) = source_in key indexes f

-- of a document that is none of them the shape gives nothing
abbrev pub LeavesOut : Bytes → ℕ → Form → Indexes → Source → Type 0
LeavesOut key n f indexes s = (m : Document) → may_hold s m ≡ false → length (answered (rows_over bare_world n (plain_view [] 0 [] key [] indexes) f (m ∷ []))) ≡ 0
