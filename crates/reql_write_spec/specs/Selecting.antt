-- The rows of a write: the primary keys of a selection of the table (ReQL API reference: update, replace, delete).
use Rattle.std.specs.Prelude.{ℕ, List, [], ◌∷◌, ◌++◌, length, map, nat_eq, Bool, true, false, ◌&&◌, if◌then◌else◌, Ok}
use Rattle.std.specs.Map.{keys_of}
use Rattle.std.specs.Option.{unwrap_or}
use Rattle.reql_datum.specs.Answer.{Answer, ◌>>=◌}
use Rattle.reql_datum.specs.Plain.{Plain, null}
use Rattle.reql_term.specs.Form.{Form, several, keyed, function, slot, operation, Forms, no_forms, form, NamedForms, no_named, named}
use Rattle.reql_term.specs.Views.{Document, Index}
use Rattle.reql_term.specs.declared.op.Op.{Op}
use Rattle.reql_term.specs.declared.op.Op.TheVariants as op
use Rattle.reql_rules.specs.Lists.{Bytes}
use Rattle.reql_value_spec.specs.Index.{plain_view}
use Rattle.reql_value_spec.specs.Meaning.{value}
use Rattle.reql_value_spec.specs.Meant.{Meant, selection, row, table}
use Rattle.reql_value_spec.specs.World.{World, View}
use Rattle.reql_write_spec.specs.Treating.{field_in}

-- the terms that select rows of what they are given first
abbrev pub selects : Op → Bool
selects op.Get = true
selects op.GetAll = true
selects op.Between = true
selects op.Filter = true
selects op.OrderBy = true
selects op.Limit = true
selects op.Skip = true
selects op.Slice = true
selects o = false

-- such terms, one on another, on a table
abbrev mutual
  pub is_chain : Form → Bool
  is_chain (slot n) = true
  is_chain (operation o fs ms) = selects o && first_is_chain fs
  is_chain f = false

  pub first_is_chain : Forms → Bool
  first_is_chain no_forms = false
  first_is_chain (form f fs) = is_chain f

-- the slots that stand in a term
abbrev mutual
  pub slots : Form → List ℕ
  slots (slot n) = n ∷ []
  slots (several fs) = slots_of fs
  slots (keyed ms) = slots_named ms
  slots (function ids f) = slots f
  slots (operation o fs ms) = slots_of fs ++ slots_named ms
  slots f = []

  pub slots_of : Forms → List ℕ
  slots_of no_forms = []
  slots_of (form f fs) = slots f ++ slots_of fs

  pub slots_named : NamedForms → List ℕ
  slots_named no_named = []
  slots_named (named k f ms) = slots f ++ slots_named ms

-- just one slot stands in a selection of a table's rows, as that table
abbrev pub is_selection : Form → Bool
is_selection f = is_chain f && nat_eq (length (slots f)) 1

-- a table as its own rows are read, whatever its slot; a command carries no globals
abbrev pub own_view : Bytes → List Document → List (Bytes × Index) → View
own_view field docs indexes = plain_view [] 0 [] field docs indexes

abbrev pub own_world : Bytes → List Document → List (Bytes × Index) → Form → World
own_world field docs indexes rows = record {
  tables = map (λ n. (n, own_view field docs indexes)) (slots rows);
  databases = [];
  array_limit = 100000;
}

abbrev pub key_in : Bytes → Plain → Plain
key_in field d = unwrap_or (field_in field d) null

abbrev pub row_keys : Bytes → List Document → Meant → List Plain
row_keys field docs (row n key d) = key ∷ []
row_keys field docs (selection n k ds) = map (key_in field) ds
row_keys field docs (table n) = keys_of docs
row_keys field docs m = []

-- the keys of the rows, or the fault in evaluating them
abbrev pub selected : Bytes → List Document → List (Bytes × Index) → Form → Answer (List Plain)
selected field docs indexes rows =
    if is_selection rows then (value rows (own_world field docs indexes rows) [] >>= λ m. Ok (row_keys field docs m)) else Ok []
