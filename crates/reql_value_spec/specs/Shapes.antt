-- Shapes of range feeds: stages over a table, or over a BETWEEN or a GET_ALL of it; and that they go document by document.
use Rattle.std.specs.Prelude.{◌≡◌, ℕ, nat_eq, List, [], ◌∷◌, Bool, true, false, ◌⊎◌, Ok, Err, is_ok}
use Rattle.std.specs.List.{AllByRecursion, flat_map}
use Rattle.reql_datum.specs.Answer.{Answer, ◌>>=◌}
use Rattle.reql_datum.specs.Plain.{Plain}
use Rattle.reql_term.specs.Form.{Form, literal, several, keyed, variable, implicit, function, slot, operation, Forms, no_forms, form}
use Rattle.reql_term.specs.Views.{Document}
use Rattle.reql_term.specs.declared.op.Op.{Op}
use Rattle.reql_term.specs.declared.op.Op.TheVariants as op
use Rattle.reql_bag.specs.Bag.{times}
use Rattle.reql_value_spec.specs.Depends.{AllName, FieldsName}
use Rattle.reql_value_spec.specs.Index.{plain_view}
use Rattle.reql_value_spec.specs.Meaning.{value}
use Rattle.reql_value_spec.specs.Wanted.{to_sequence}
use Rattle.reql_value_spec.specs.World.{World, View}

-- nothing where there is a fault
abbrev pub answered : Answer (List Plain) → List Plain
answered (Ok vs) = vs
answered (Err e) = []

-- over documents without a fault, what is given of all is what is given of each by itself, in some order
abbrev pub IsByDocument : (List Document → Answer (List Plain)) → Type 0
IsByDocument shape = (docs : List Document) → AllByRecursion (λ m. is_ok (shape (m ∷ [])) ≡ true) docs
    → (v : Plain) → times v (answered (shape docs)) ≡ times v (flat_map (λ m. answered (shape (m ∷ []))) docs)

-- the operators that go element by element, and those that give a part of a table
abbrev pub is_stage : Op → Bool
is_stage op.Map = true
is_stage op.Filter = true
is_stage op.Pluck = true
is_stage op.Without = true
is_stage op.Merge = true
is_stage op.HasFields = true
is_stage op.WithFields = true
is_stage o = false

abbrev pub is_part : Op → Bool
is_part op.Between = true
is_part op.GetAll = true
is_part o = false

-- no slot may stand in the other arguments
abbrev pub NoSlot : ℕ → Type 0
NoSlot n = ⊥

abbrev pub IsTable : ℕ → Form → Type 0
IsTable n (slot k) = nat_eq k n ≡ true
IsTable n f = ⊥

abbrev pub OnTable : ℕ → Forms → Type 0
OnTable n no_forms = ⊥
OnTable n (form f fs) = IsTable n f × AllName NoSlot [] fs

-- the table of a slot, or a part of it, or a stage over such a shape; nothing else in it names a table or a variable from outside
abbrev mutual
  pub IsShape : ℕ → Form → Type 0
  IsShape n (slot k) = nat_eq k n ≡ true
  IsShape n (operation o fs ms) = ((is_stage o ≡ true) × OnShape n fs × FieldsName NoSlot [] ms) ⊎ ((is_part o ≡ true) × OnTable n fs × FieldsName NoSlot [] ms)
  IsShape n (literal d) = ⊥
  IsShape n (several fs) = ⊥
  IsShape n (keyed ms) = ⊥
  IsShape n (variable id) = ⊥
  IsShape n implicit = ⊥
  IsShape n (function ids body) = ⊥

  pub OnShape : ℕ → Forms → Type 0
  OnShape n no_forms = ⊥
  OnShape n (form f fs) = IsShape n f × AllName NoSlot [] fs

-- a world of one table that holds these documents, with the names and the indexes of a view
abbrev pub with_documents : View → List Document → View
with_documents t docs = plain_view t.db t.db_number t.name t.key docs t.indexes

abbrev pub over : World → ℕ → View → List Document → World
over base n t docs = record base { tables = (n, with_documents t docs) ∷ [] }

abbrev pub rows_over : World → ℕ → View → Form → List Document → Answer (List Plain)
rows_over base n t f docs = value f (over base n t docs) [] >>= to_sequence (over base n t docs)

abbrev pub ShapesAreByDocument : Type 0
ShapesAreByDocument = (base : World) (n : ℕ) (t : View) (f : Form) → IsShape n f → IsByDocument (rows_over base n t f)
