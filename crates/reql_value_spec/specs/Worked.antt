-- Worked rows over tables of their own, and what a request is answered with.
use Rattle.std.specs.Prelude.{◌≡◌, ℕ, zero, suc, List, [], ◌∷◌, true, false, Some, Ok, Err, codes}
use Rattle.reql_datum.specs.Answer.{Answer, ◌>>=◌, query_logic, non_existence, resource_limit, op_failed, user}
use Rattle.reql_datum.specs.Plain.{boolean, null}
use Rattle.reql_term.specs.Form.{Form, literal, slot}
use Rattle.reql_term.specs.Views.{Document, Index}
use Rattle.reql_term.specs.declared.op.Op.TheVariants as op
use Rattle.reql_rules.specs.Lists.{Bytes}
use Rattle.reql_value_spec.specs.Index.{entries, plain_view}
use Rattle.reql_value_spec.specs.Meaning.{value}
use Rattle.reql_value_spec.specs.Meant.{one, stream, selection, row, grouped, slice_in_order, some_rows}
use Rattle.reql_value_spec.specs.Shapes.{IsShape}
use Rattle.reql_value_spec.specs.Short.{Case, t, n, a, o, num, name, call, with, array, members, var, fun, field}
use Rattle.reql_value_spec.specs.Shown.{Shown, atom, sequence, shown, grouped_data}
use Rattle.reql_value_spec.specs.World.{World}

-- one table, with its documents and its indexes
abbrev pub world : List Document → List (Bytes × Index) → World
world documents indexes = record { tables = (0, plain_view (codes "test") 0 (codes "docs") (codes "id") documents indexes) ∷ []; databases = (codes "test", 0) ∷ []; array_limit = 100000 }

-- a multi index: each distinct member is one entry
abbrev pub tagging : World
tagging = world ((n 1, o ((codes "id", n 1) ∷ (codes "tags", a (t "a" ∷ t "b" ∷ t "a" ∷ [])) ∷ [])) ∷ []) ((codes "tags", (fun (field "tags"), true)) ∷ [])

abbrev pub tagging_rows : List Case
tagging_rows =
    (call op.CoerceTo (with op.Between (slot 0 ∷ name "a" ∷ call op.Maxval [] ∷ []) ((codes "index", name "tags") ∷ []) ∷ name "array" ∷ []), Ok (one (a (o ((codes "id", n 1) ∷ (codes "tags", a (t "a" ∷ t "b" ∷ t "a" ∷ [])) ∷ []) ∷ o ((codes "id", n 1) ∷ (codes "tags", a (t "a" ∷ t "b" ∷ t "a" ∷ [])) ∷ []) ∷ [])))) ∷
    (with op.GetAll (slot 0 ∷ name "a" ∷ []) ((codes "index", name "tags") ∷ []), Ok (selection 0 some_rows (o ((codes "id", n 1) ∷ (codes "tags", a (t "a" ∷ t "b" ∷ t "a" ∷ [])) ∷ []) ∷ []))) ∷
    (with op.GetAll (slot 0 ∷ name "a" ∷ []) ((codes "index", name "none") ∷ []), Err (op_failed (codes "Index `none` does not exist."))) ∷
    (with op.Distinct (slot 0 ∷ []) ((codes "index", name "tags") ∷ []), Ok (stream (t "a" ∷ t "b" ∷ []))) ∷
    []

-- a compound index: a document without an entry is not in it
abbrev pub pairing : World
pairing = world ((n 1, o ((codes "a", n 1) ∷ (codes "b", null) ∷ (codes "id", n 1) ∷ [])) ∷ (n 2, o ((codes "a", n 1) ∷ (codes "b", n 2) ∷ (codes "id", n 2) ∷ [])) ∷ []) ((codes "ab", (fun (array (field "a" ∷ field "b" ∷ [])), false)) ∷ [])

abbrev pub pairing_rows : List Case
pairing_rows =
    (call op.CoerceTo (with op.Between (slot 0 ∷ call op.Minval [] ∷ call op.Maxval [] ∷ []) ((codes "index", name "ab") ∷ []) ∷ name "array" ∷ []), Ok (one (a (o ((codes "a", n 1) ∷ (codes "b", n 2) ∷ (codes "id", n 2) ∷ []) ∷ [])))) ∷
    (call op.Get (slot 0 ∷ num 1 ∷ []), Ok (row 0 (n 1) (Some (o ((codes "a", n 1) ∷ (codes "b", null) ∷ (codes "id", n 1) ∷ []))))) ∷
    (call op.Add (call op.Get (slot 0 ∷ num 1 ∷ []) ∷ num 1 ∷ []), Err (query_logic (codes "Expected type NUMBER but found SELECTION<OBJECT>."))) ∷
    (with op.OrderBy (with op.Between (slot 0 ∷ call op.Minval [] ∷ call op.Maxval [] ∷ []) ((codes "index", name "id") ∷ []) ∷ []) ((codes "index", call op.Desc (name "id" ∷ [])) ∷ []), Ok (selection 0 slice_in_order (o ((codes "a", n 1) ∷ (codes "b", n 2) ∷ (codes "id", n 2) ∷ []) ∷ o ((codes "a", n 1) ∷ (codes "b", null) ∷ (codes "id", n 1) ∷ []) ∷ []))) ∷
    (with op.Distinct (slot 0 ∷ []) ((codes "index", name "ab") ∷ []), Ok (stream (a (n 1 ∷ n 2 ∷ []) ∷ []))) ∷
    (call op.EqJoin (array (members ((codes "k", num 2) ∷ []) ∷ []) ∷ name "k" ∷ slot 0 ∷ []), Ok (one (a (o ((codes "left", o ((codes "k", n 2) ∷ [])) ∷ (codes "right", o ((codes "a", n 1) ∷ (codes "b", n 2) ∷ (codes "id", n 2) ∷ [])) ∷ []) ∷ [])))) ∷
    []

-- groups of a table
abbrev pub grouping : World
grouping = world ((n 1, o ((codes "g", t "a") ∷ (codes "id", n 1) ∷ [])) ∷ (n 2, o ((codes "g", t "b") ∷ (codes "id", n 2) ∷ [])) ∷ (n 3, o ((codes "g", t "a") ∷ (codes "id", n 3) ∷ [])) ∷ []) []

abbrev pub grouping_rows : List Case
grouping_rows =
    (call op.Count (call op.Group (slot 0 ∷ name "g" ∷ []) ∷ []), Ok (grouped ((t "a", n 2) ∷ (t "b", n 1) ∷ []))) ∷
    (call op.Group (call op.Group (slot 0 ∷ name "id" ∷ []) ∷ name "id" ∷ []), Err (query_logic (codes "Expected type DATUM but found GROUPED_DATA."))) ∷
    (call op.Ungroup (call op.Count (call op.Group (slot 0 ∷ name "g" ∷ []) ∷ []) ∷ []), Ok (one (a (o ((codes "group", t "a") ∷ (codes "reduction", n 2) ∷ []) ∷ o ((codes "group", t "b") ∷ (codes "reduction", n 1) ∷ []) ∷ [])))) ∷
    []

-- a document that lacks a field
abbrev pub lacking : World
lacking = world ((n 1, o ((codes "id", n 1) ∷ (codes "n", n 5) ∷ [])) ∷ (n 2, o ((codes "id", n 2) ∷ [])) ∷ []) []

abbrev pub lacking_rows : List Case
lacking_rows =
    (call op.Filter (slot 0 ∷ fun (call op.Gt (field "n" ∷ num 3 ∷ [])) ∷ []), Ok (selection 0 some_rows (o ((codes "id", n 1) ∷ (codes "n", n 5) ∷ []) ∷ []))) ∷
    (with op.Filter (slot 0 ∷ fun (call op.Gt (field "n" ∷ num 3 ∷ [])) ∷ []) ((codes "default", literal (boolean true)) ∷ []), Ok (selection 0 some_rows (o ((codes "id", n 1) ∷ (codes "n", n 5) ∷ []) ∷ o ((codes "id", n 2) ∷ []) ∷ []))) ∷
    (with op.Filter (slot 0 ∷ fun (call op.Gt (field "n" ∷ num 3 ∷ [])) ∷ []) ((codes "default", call op.Error []) ∷ []), Err (non_existence (codes "No attribute `n` in object."))) ∷
    (with op.Filter (slot 0 ∷ fun (call op.Gt (field "n" ∷ num 3 ∷ [])) ∷ []) ((codes "default", call op.Error (name "x" ∷ [])) ∷ []), Err (user (codes "x"))) ∷
    (call op.Filter (slot 0 ∷ members ((codes "n", num 5) ∷ []) ∷ []), Ok (selection 0 some_rows (o ((codes "id", n 1) ∷ (codes "n", n 5) ∷ []) ∷ []))) ∷
    (with op.Filter (slot 0 ∷ members ((codes "n", num 4) ∷ []) ∷ []) ((codes "default", literal (boolean true)) ∷ []), Ok (selection 0 some_rows (o ((codes "id", n 2) ∷ []) ∷ []))) ∷
    (with op.Filter (slot 0 ∷ fun (members ((codes "id", num 2) ∷ (codes "n", field "id") ∷ [])) ∷ []) ((codes "default", call op.Error []) ∷ []), Err (non_existence (codes "No attribute `n` in object."))) ∷
    (call op.Filter (slot 0 ∷ fun (members ((codes "n", field "id") ∷ [])) ∷ []), Ok (selection 0 some_rows [])) ∷
    []

-- the entries of a document
abbrev pub Entered : Type 0
Entered = entries (fun (field "tags"), true) (o ((codes "tags", a (t "b" ∷ t "a" ∷ t "b" ∷ null ∷ [])) ∷ [])) ≡ t "a" ∷ t "b" ∷ []

-- what a request is answered with
abbrev answered : World → Form → Answer Shown
answered w f = value f w [] >>= shown w

-- an array in an array, so many times
abbrev nested : ℕ → Form
nested zero = array []
nested (suc k) = array (nested k ∷ [])

abbrev pub Answers : Type 0
Answers =
    (answered lacking (slot 0) ≡ Ok (sequence (o ((codes "id", n 1) ∷ (codes "n", n 5) ∷ []) ∷ o ((codes "id", n 2) ∷ []) ∷ [])))
    × (answered lacking (call op.OrderBy (slot 0 ∷ call op.Desc (name "id" ∷ []) ∷ [])) ≡ Ok (atom (a (o ((codes "id", n 2) ∷ []) ∷ o ((codes "id", n 1) ∷ (codes "n", n 5) ∷ []) ∷ []))))
    × (answered lacking (call op.Get (slot 0 ∷ num 7 ∷ [])) ≡ Ok (atom null))
    × (answered lacking (call op.Minval []) ≡ Err (query_logic (codes "Value cannot be shown or stored.")))
    × (answered lacking (array (call op.Literal (num 1 ∷ []) ∷ [])) ≡ Err (query_logic (codes "Value cannot be shown or stored.")))
    × (answered lacking (call op.Db (name "test" ∷ [])) ≡ Err (query_logic (codes "Misplaced term.")))
    × (answered lacking (fun var) ≡ Err (query_logic (codes "Expected type DATUM but found FUNCTION.")))
    × (grouped_data ((t "a", n 2) ∷ []) ≡ o ((codes "$reql_type$", t "GROUPED_DATA") ∷ (codes "data", a (a (t "a" ∷ n 2 ∷ []) ∷ [])) ∷ []))
    × (answered lacking (call op.Count (nested 100 ∷ [])) ≡ Err (resource_limit (codes "Nesting over limit `100`.")))
    × (answered lacking (call op.Count (nested 99 ∷ [])) ≡ Ok (atom (n 1)))

-- a feed's shape: a test on each document of a BETWEEN
abbrev pub Shaped : Type 0
Shaped = IsShape 0 (call op.Filter (with op.Between (slot 0 ∷ num 1 ∷ call op.Maxval [] ∷ []) ((codes "index", name "n") ∷ []) ∷ fun (call op.Gt (field "n" ∷ num 3 ∷ [])) ∷ []))
