-- Terms of sequences, joins and groups, each with what it gives over the tables of Short.
use Rattle.std.specs.Prelude.{List, [], ◌∷◌, true, false, Ok, Err, codes}
use Rattle.reql_datum.specs.Answer.{non_existence, query_logic, user}
use Rattle.reql_datum.specs.Plain.{boolean, null, binary, text}
use Rattle.reql_term.specs.Form.{literal, variable, slot}
use Rattle.reql_term.specs.declared.op.Op.TheVariants as op
use Rattle.reql_value_spec.specs.Meant.{one, stream, selection, grouped, slice_in_order, some_rows, rows_in_array}
use Rattle.reql_value_spec.specs.Short.{Case, t, n, minus, a, o, num, name, call, with, array, members, var, fun, fun_of_two, field}

abbrev pub sequences : List Case
sequences =
    (call op.Reduce (array (num 1 ∷ num 2 ∷ num 3 ∷ []) ∷ fun_of_two (call op.Sub (var ∷ variable 2 ∷ [])) ∷ []), Ok (one (minus 4))) ∷
    (call op.Reduce (array (num 7 ∷ []) ∷ fun_of_two var ∷ []), Ok (one (n 7))) ∷
    (call op.Map (array (num 1 ∷ num 2 ∷ []) ∷ fun (call op.Add (var ∷ num 10 ∷ [])) ∷ []), Ok (one (a (n 11 ∷ n 12 ∷ [])))) ∷
    (call op.Map (call op.Range (num 2 ∷ []) ∷ fun (call op.Add (var ∷ num 10 ∷ [])) ∷ []), Ok (stream (n 10 ∷ n 11 ∷ []))) ∷
    (call op.Map (array (num 1 ∷ num 2 ∷ []) ∷ num 7 ∷ []), Ok (one (a (n 7 ∷ n 7 ∷ [])))) ∷
    (call op.Map (slot 1 ∷ fun (field "m") ∷ []), Ok (stream (n 1 ∷ n 2 ∷ []))) ∷
    (call op.Map (array [] ∷ fun_of_two (num 1) ∷ []), Ok (one (a []))) ∷
    (call op.Filter (array (num 1 ∷ num 2 ∷ num 3 ∷ []) ∷ fun (call op.Gt (var ∷ num 1 ∷ [])) ∷ []), Ok (one (a (n 2 ∷ n 3 ∷ [])))) ∷
    (call op.Filter (slot 1 ∷ members ((codes "m", num 2) ∷ []) ∷ []), Ok (selection 1 some_rows (o ((codes "key", t "b") ∷ (codes "m", n 2) ∷ []) ∷ []))) ∷
    (call op.Filter (literal (a (o ((codes "a", o ((codes "b", n 1) ∷ (codes "c", n 2) ∷ [])) ∷ []) ∷ o ((codes "a", n 1) ∷ []) ∷ n 3 ∷ [])) ∷ literal (o ((codes "a", o ((codes "b", n 1) ∷ [])) ∷ [])) ∷ []), Ok (one (a (o ((codes "a", o ((codes "b", n 1) ∷ (codes "c", n 2) ∷ [])) ∷ []) ∷ [])))) ∷
    (call op.Filter (array (num 1 ∷ num 2 ∷ []) ∷ literal (boolean true) ∷ []), Ok (one (a (n 1 ∷ n 2 ∷ [])))) ∷
    (call op.Filter (slot 0 ∷ fun (call op.Gt (call op.Bracket (field "tags" ∷ num 0 ∷ []) ∷ name "a" ∷ [])) ∷ []), Ok (selection 0 some_rows (o ((codes "g", t "x") ∷ (codes "id", n 3) ∷ (codes "n", n 5) ∷ (codes "o", o ((codes "p", n 1) ∷ (codes "q", a (n 1 ∷ n 2 ∷ [])) ∷ [])) ∷ (codes "tags", a (t "b" ∷ null ∷ n 7 ∷ [])) ∷ []) ∷ []))) ∷
    (call op.Filter (literal (a (o ((codes "a", n 1) ∷ []) ∷ o [] ∷ [])) ∷ fun (call op.Gt (field "a" ∷ num 0 ∷ [])) ∷ []), Ok (one (a (o ((codes "a", n 1) ∷ []) ∷ [])))) ∷
    (with op.Filter (literal (a (o ((codes "a", n 1) ∷ []) ∷ o [] ∷ [])) ∷ fun (call op.Gt (field "a" ∷ num 0 ∷ [])) ∷ []) ((codes "default", literal (boolean true)) ∷ []), Ok (one (a (o ((codes "a", n 1) ∷ []) ∷ o [] ∷ [])))) ∷
    (with op.Filter (literal (a (o ((codes "a", n 1) ∷ []) ∷ o [] ∷ [])) ∷ fun (call op.Gt (field "a" ∷ num 0 ∷ [])) ∷ []) ((codes "default", call op.Error []) ∷ []), Err (non_existence (codes "No attribute `a` in object."))) ∷
    (with op.Filter (literal (a (o ((codes "a", n 1) ∷ []) ∷ o [] ∷ [])) ∷ fun (call op.Gt (field "a" ∷ num 0 ∷ [])) ∷ []) ((codes "default", call op.Error (name "gone" ∷ [])) ∷ []), Err (user (codes "gone"))) ∷
    (with op.Filter (literal (a (o ((codes "a", n 1) ∷ []) ∷ o [] ∷ [])) ∷ fun (call op.Gt (field "a" ∷ num 0 ∷ [])) ∷ []) ((codes "default", call op.Error (call op.Error [] ∷ [])) ∷ []), Err (query_logic (codes "Empty ERROR term outside a default block."))) ∷
    (call op.Default (literal null ∷ with op.Filter (literal (a (o ((codes "a", n 1) ∷ []) ∷ o [] ∷ [])) ∷ fun (call op.Gt (field "a" ∷ num 0 ∷ [])) ∷ []) ((codes "default", call op.Error (call op.Error [] ∷ [])) ∷ []) ∷ []), Ok (one null)) ∷
    (call op.Filter (literal (a (o ((codes "a", n 1) ∷ []) ∷ o [] ∷ [])) ∷ literal (o ((codes "a", n 1) ∷ [])) ∷ []), Ok (one (a (o ((codes "a", n 1) ∷ []) ∷ [])))) ∷
    (with op.Filter (literal (a (o ((codes "a", n 1) ∷ []) ∷ o [] ∷ [])) ∷ literal (o ((codes "a", n 1) ∷ [])) ∷ []) ((codes "default", literal (boolean true)) ∷ []), Ok (one (a (o ((codes "a", n 1) ∷ []) ∷ o [] ∷ [])))) ∷
    (with op.Filter (literal (a (o ((codes "a", n 1) ∷ []) ∷ o [] ∷ [])) ∷ literal (o ((codes "a", n 1) ∷ [])) ∷ []) ((codes "default", literal (boolean false)) ∷ []), Ok (one (a (o ((codes "a", n 1) ∷ []) ∷ [])))) ∷
    (with op.Filter (literal (a (o ((codes "a", n 1) ∷ []) ∷ o [] ∷ [])) ∷ literal (o ((codes "a", n 1) ∷ [])) ∷ []) ((codes "default", call op.Error []) ∷ []), Err (non_existence (codes "No attribute `a` in object."))) ∷
    (with op.Filter (literal (a (o ((codes "a", n 1) ∷ []) ∷ o [] ∷ [])) ∷ literal (o ((codes "a", n 1) ∷ [])) ∷ []) ((codes "default", call op.Error (name "gone" ∷ [])) ∷ []), Err (user (codes "gone"))) ∷
    (with op.Filter (literal (a (o ((codes "a", o ((codes "b", n 1) ∷ [])) ∷ []) ∷ o ((codes "a", o []) ∷ []) ∷ o ((codes "a", n 1) ∷ []) ∷ n 3 ∷ [])) ∷ literal (o ((codes "a", o ((codes "b", n 1) ∷ [])) ∷ [])) ∷ []) ((codes "default", literal (boolean true)) ∷ []), Ok (one (a (o ((codes "a", o ((codes "b", n 1) ∷ [])) ∷ []) ∷ o ((codes "a", o []) ∷ []) ∷ [])))) ∷
    (with op.Filter (literal (a (o ((codes "a", o ((codes "b", n 1) ∷ [])) ∷ []) ∷ o ((codes "a", o []) ∷ []) ∷ [])) ∷ literal (o ((codes "a", o ((codes "b", n 1) ∷ [])) ∷ [])) ∷ []) ((codes "default", call op.Error []) ∷ []), Err (non_existence (codes "No attribute `b` in object."))) ∷
    (with op.Filter (literal (a (o ((codes "a", n 2) ∷ []) ∷ o ((codes "a", n 1) ∷ []) ∷ o ((codes "b", n 1) ∷ []) ∷ o ((codes "b", n 2) ∷ []) ∷ [])) ∷ literal (o ((codes "a", n 1) ∷ (codes "b", n 1) ∷ [])) ∷ []) ((codes "default", literal (boolean true)) ∷ []), Ok (one (a (o ((codes "a", n 1) ∷ []) ∷ o ((codes "b", n 1) ∷ []) ∷ o ((codes "b", n 2) ∷ []) ∷ [])))) ∷
    (call op.Filter (literal (a (o ((codes "a", n 2) ∷ []) ∷ o ((codes "a", n 1) ∷ []) ∷ [])) ∷ literal (o []) ∷ []), Ok (one (a (o ((codes "a", n 2) ∷ []) ∷ o ((codes "a", n 1) ∷ []) ∷ [])))) ∷
    (call op.Filter (literal (a (n 3 ∷ o ((codes "a", n 1) ∷ []) ∷ [])) ∷ literal (o []) ∷ []), Ok (one (a (o ((codes "a", n 1) ∷ []) ∷ [])))) ∷
    (call op.Filter (literal (a (o ((codes "a", n 1) ∷ (codes "b", n 1) ∷ []) ∷ o ((codes "a", n 1) ∷ (codes "b", n 2) ∷ []) ∷ o ((codes "a", n 1) ∷ []) ∷ [])) ∷ fun (members ((codes "a", field "b") ∷ [])) ∷ []), Ok (one (a (o ((codes "a", n 1) ∷ (codes "b", n 1) ∷ []) ∷ [])))) ∷
    (with op.Filter (literal (a (o ((codes "a", n 1) ∷ (codes "b", n 1) ∷ []) ∷ o ((codes "a", n 1) ∷ (codes "b", n 2) ∷ []) ∷ o ((codes "a", n 1) ∷ []) ∷ [])) ∷ fun (members ((codes "a", field "b") ∷ [])) ∷ []) ((codes "default", literal (boolean true)) ∷ []), Ok (one (a (o ((codes "a", n 1) ∷ (codes "b", n 1) ∷ []) ∷ o ((codes "a", n 1) ∷ []) ∷ [])))) ∷
    (with op.Filter (literal (a (o ((codes "b", n 1) ∷ []) ∷ o ((codes "a", n 1) ∷ (codes "b", n 2) ∷ []) ∷ [])) ∷ fun (members ((codes "a", field "b") ∷ [])) ∷ []) ((codes "default", literal (boolean true)) ∷ []), Ok (one (a (o ((codes "b", n 1) ∷ []) ∷ [])))) ∷
    (with op.Filter (literal (a (o ((codes "a", o ((codes "b", n 1) ∷ [])) ∷ (codes "c", n 1) ∷ []) ∷ o ((codes "a", o ((codes "b", n 1) ∷ [])) ∷ (codes "c", n 2) ∷ []) ∷ o ((codes "a", o []) ∷ (codes "c", n 1) ∷ []) ∷ o ((codes "a", n 1) ∷ (codes "c", n 1) ∷ []) ∷ [])) ∷ fun (members ((codes "a", members ((codes "b", field "c") ∷ [])) ∷ [])) ∷ []) ((codes "default", literal (boolean true)) ∷ []), Ok (one (a (o ((codes "a", o ((codes "b", n 1) ∷ [])) ∷ (codes "c", n 1) ∷ []) ∷ o ((codes "a", o []) ∷ (codes "c", n 1) ∷ []) ∷ [])))) ∷
    (call op.Filter (literal (a (o ((codes "a", n 1) ∷ []) ∷ o ((codes "a", n 2) ∷ []) ∷ [])) ∷ fun (literal (o ((codes "a", n 1) ∷ []))) ∷ []), Ok (one (a (o ((codes "a", n 1) ∷ []) ∷ [])))) ∷
    (call op.Filter (literal (a (o ((codes "a", n 1) ∷ []) ∷ o [] ∷ [])) ∷ fun var ∷ []), Ok (one (a (o ((codes "a", n 1) ∷ []) ∷ o [] ∷ [])))) ∷
    (call op.Filter (literal (a (o ((codes "a", n 1) ∷ []) ∷ o ((codes "a", n 2) ∷ []) ∷ [])) ∷ fun (call op.Merge (var ∷ members ((codes "a", num 2) ∷ []) ∷ [])) ∷ []), Ok (one (a (o ((codes "a", n 1) ∷ []) ∷ o ((codes "a", n 2) ∷ []) ∷ [])))) ∷
    (call op.Filter (literal (a (o ((codes "a", n 1) ∷ []) ∷ o [] ∷ [])) ∷ members ((codes "a", call op.Literal (num 1 ∷ [])) ∷ []) ∷ []), Ok (one (a []))) ∷
    (call op.Filter (literal (a (o ((codes "a", n 1) ∷ []) ∷ o [] ∷ [])) ∷ call op.Literal (literal (o ((codes "a", n 2) ∷ [])) ∷ []) ∷ []), Ok (one (a (o ((codes "a", n 1) ∷ []) ∷ o [] ∷ [])))) ∷
    (call op.ConcatMap (array (num 1 ∷ num 2 ∷ []) ∷ fun (call op.Range (var ∷ [])) ∷ []), Ok (one (a (n 0 ∷ n 0 ∷ n 1 ∷ [])))) ∷
    (call op.ConcatMap (call op.Range (num 3 ∷ []) ∷ fun (array (var ∷ var ∷ [])) ∷ []), Ok (stream (n 0 ∷ n 0 ∷ n 1 ∷ n 1 ∷ n 2 ∷ n 2 ∷ []))) ∷
    (call op.OrderBy (array (num 3 ∷ num 1 ∷ num 2 ∷ []) ∷ fun var ∷ []), Ok (one (a (n 1 ∷ n 2 ∷ n 3 ∷ [])))) ∷
    (call op.OrderBy (array (num 3 ∷ num 1 ∷ num 2 ∷ []) ∷ call op.Desc (fun var ∷ []) ∷ []), Ok (one (a (n 3 ∷ n 2 ∷ n 1 ∷ [])))) ∷
    (call op.OrderBy (slot 0 ∷ name "n" ∷ []), Ok (selection 0 rows_in_array (o ((codes "g", null) ∷ (codes "id", t "k") ∷ (codes "n", null) ∷ []) ∷ o ((codes "g", t "y") ∷ (codes "id", n 2) ∷ (codes "n", n 3) ∷ []) ∷ o ((codes "g", t "x") ∷ (codes "id", n 1) ∷ (codes "n", n 5) ∷ (codes "tags", a (t "a" ∷ t "b" ∷ t "a" ∷ [])) ∷ []) ∷ o ((codes "g", t "x") ∷ (codes "id", n 3) ∷ (codes "n", n 5) ∷ (codes "o", o ((codes "p", n 1) ∷ (codes "q", a (n 1 ∷ n 2 ∷ [])) ∷ [])) ∷ (codes "tags", a (t "b" ∷ null ∷ n 7 ∷ [])) ∷ []) ∷ []))) ∷
    (call op.OrderBy (slot 0 ∷ call op.Desc (name "n" ∷ []) ∷ call op.Asc (name "g" ∷ []) ∷ []), Ok (selection 0 rows_in_array (o ((codes "g", t "x") ∷ (codes "id", n 1) ∷ (codes "n", n 5) ∷ (codes "tags", a (t "a" ∷ t "b" ∷ t "a" ∷ [])) ∷ []) ∷ o ((codes "g", t "x") ∷ (codes "id", n 3) ∷ (codes "n", n 5) ∷ (codes "o", o ((codes "p", n 1) ∷ (codes "q", a (n 1 ∷ n 2 ∷ [])) ∷ [])) ∷ (codes "tags", a (t "b" ∷ null ∷ n 7 ∷ [])) ∷ []) ∷ o ((codes "g", t "y") ∷ (codes "id", n 2) ∷ (codes "n", n 3) ∷ []) ∷ o ((codes "g", null) ∷ (codes "id", t "k") ∷ (codes "n", null) ∷ []) ∷ []))) ∷
    (with op.OrderBy (slot 0 ∷ []) ((codes "index", name "n") ∷ []), Ok (selection 0 slice_in_order (o ((codes "g", t "y") ∷ (codes "id", n 2) ∷ (codes "n", n 3) ∷ []) ∷ o ((codes "g", t "x") ∷ (codes "id", n 1) ∷ (codes "n", n 5) ∷ (codes "tags", a (t "a" ∷ t "b" ∷ t "a" ∷ [])) ∷ []) ∷ o ((codes "g", t "x") ∷ (codes "id", n 3) ∷ (codes "n", n 5) ∷ (codes "o", o ((codes "p", n 1) ∷ (codes "q", a (n 1 ∷ n 2 ∷ [])) ∷ [])) ∷ (codes "tags", a (t "b" ∷ null ∷ n 7 ∷ [])) ∷ []) ∷ []))) ∷
    (with op.OrderBy (slot 0 ∷ []) ((codes "index", call op.Desc (name "n" ∷ [])) ∷ []), Ok (selection 0 slice_in_order (o ((codes "g", t "x") ∷ (codes "id", n 3) ∷ (codes "n", n 5) ∷ (codes "o", o ((codes "p", n 1) ∷ (codes "q", a (n 1 ∷ n 2 ∷ [])) ∷ [])) ∷ (codes "tags", a (t "b" ∷ null ∷ n 7 ∷ [])) ∷ []) ∷ o ((codes "g", t "x") ∷ (codes "id", n 1) ∷ (codes "n", n 5) ∷ (codes "tags", a (t "a" ∷ t "b" ∷ t "a" ∷ [])) ∷ []) ∷ o ((codes "g", t "y") ∷ (codes "id", n 2) ∷ (codes "n", n 3) ∷ []) ∷ []))) ∷
    (with op.OrderBy (slot 0 ∷ call op.Desc (name "id" ∷ []) ∷ []) ((codes "index", name "n") ∷ []), Ok (selection 0 some_rows (o ((codes "g", t "y") ∷ (codes "id", n 2) ∷ (codes "n", n 3) ∷ []) ∷ o ((codes "g", t "x") ∷ (codes "id", n 3) ∷ (codes "n", n 5) ∷ (codes "o", o ((codes "p", n 1) ∷ (codes "q", a (n 1 ∷ n 2 ∷ [])) ∷ [])) ∷ (codes "tags", a (t "b" ∷ null ∷ n 7 ∷ [])) ∷ []) ∷ o ((codes "g", t "x") ∷ (codes "id", n 1) ∷ (codes "n", n 5) ∷ (codes "tags", a (t "a" ∷ t "b" ∷ t "a" ∷ [])) ∷ []) ∷ []))) ∷
    (with op.OrderBy (call op.Between (slot 0 ∷ num 2 ∷ call op.Maxval [] ∷ []) ∷ []) ((codes "index", call op.Desc (name "id" ∷ [])) ∷ []), Ok (selection 0 slice_in_order (o ((codes "g", null) ∷ (codes "id", t "k") ∷ (codes "n", null) ∷ []) ∷ o ((codes "g", t "x") ∷ (codes "id", n 3) ∷ (codes "n", n 5) ∷ (codes "o", o ((codes "p", n 1) ∷ (codes "q", a (n 1 ∷ n 2 ∷ [])) ∷ [])) ∷ (codes "tags", a (t "b" ∷ null ∷ n 7 ∷ [])) ∷ []) ∷ o ((codes "g", t "y") ∷ (codes "id", n 2) ∷ (codes "n", n 3) ∷ []) ∷ []))) ∷
    (with op.OrderBy (with op.Between (slot 0 ∷ num 4 ∷ num 6 ∷ []) ((codes "index", name "n") ∷ []) ∷ []) ((codes "index", name "n") ∷ []), Ok (selection 0 slice_in_order (o ((codes "g", t "x") ∷ (codes "id", n 1) ∷ (codes "n", n 5) ∷ (codes "tags", a (t "a" ∷ t "b" ∷ t "a" ∷ [])) ∷ []) ∷ o ((codes "g", t "x") ∷ (codes "id", n 3) ∷ (codes "n", n 5) ∷ (codes "o", o ((codes "p", n 1) ∷ (codes "q", a (n 1 ∷ n 2 ∷ [])) ∷ [])) ∷ (codes "tags", a (t "b" ∷ null ∷ n 7 ∷ [])) ∷ []) ∷ []))) ∷
    (call op.Distinct (array (num 3 ∷ num 1 ∷ num 3 ∷ []) ∷ []), Ok (one (a (n 1 ∷ n 3 ∷ [])))) ∷
    (call op.Distinct (call op.Range (num 2 ∷ []) ∷ []), Ok (stream (n 0 ∷ n 1 ∷ []))) ∷
    (with op.Distinct (slot 0 ∷ []) ((codes "index", name "n") ∷ []), Ok (stream (n 3 ∷ n 5 ∷ []))) ∷
    (call op.Distinct (call op.Map (slot 0 ∷ fun (field "g") ∷ []) ∷ []), Ok (stream (null ∷ t "x" ∷ t "y" ∷ []))) ∷
    (call op.Count (array (num 1 ∷ num 2 ∷ num 1 ∷ []) ∷ []), Ok (one (n 3))) ∷
    (call op.Count (array (num 1 ∷ num 2 ∷ num 1 ∷ []) ∷ num 1 ∷ []), Ok (one (n 2))) ∷
    (call op.Count (array (num 1 ∷ num 2 ∷ num 1 ∷ []) ∷ fun (call op.Gt (var ∷ num 1 ∷ [])) ∷ []), Ok (one (n 1))) ∷
    (call op.Count (members ((codes "a", num 1) ∷ (codes "b", num 2) ∷ []) ∷ []), Ok (one (n 2))) ∷
    (call op.Count (literal (text (97 ∷ 195 ∷ 169 ∷ [])) ∷ []), Ok (one (n 2))) ∷
    (call op.Count (literal (binary (97 ∷ 98 ∷ 99 ∷ [])) ∷ []), Ok (one (n 3))) ∷
    (call op.Count (slot 0 ∷ []), Ok (one (n 4))) ∷
    (call op.Union (array (num 1 ∷ []) ∷ array (num 2 ∷ []) ∷ []), Ok (one (a (n 1 ∷ n 2 ∷ [])))) ∷
    (call op.Union (array (num 1 ∷ []) ∷ call op.Range (num 1 ∷ []) ∷ []), Ok (stream (n 1 ∷ n 0 ∷ []))) ∷
    (with op.Union (slot 1 ∷ array (num 1 ∷ []) ∷ []) ((codes "interleave", literal (boolean true)) ∷ []), Ok (stream (o ((codes "key", t "a") ∷ (codes "m", n 1) ∷ []) ∷ o ((codes "key", t "b") ∷ (codes "m", n 2) ∷ []) ∷ n 1 ∷ []))) ∷
    (call op.Nth (array (num 1 ∷ num 2 ∷ []) ∷ literal (minus 1) ∷ []), Ok (one (n 2))) ∷
    (call op.Nth (call op.Range (num 3 ∷ []) ∷ num 1 ∷ []), Ok (one (n 1))) ∷
    (call op.Skip (array (num 1 ∷ num 2 ∷ num 3 ∷ []) ∷ num 1 ∷ []), Ok (one (a (n 2 ∷ n 3 ∷ [])))) ∷
    (call op.Limit (array (num 1 ∷ num 2 ∷ num 3 ∷ []) ∷ num 2 ∷ []), Ok (one (a (n 1 ∷ n 2 ∷ [])))) ∷
    (call op.Skip (slot 1 ∷ num 1 ∷ []), Ok (selection 1 some_rows (o ((codes "key", t "b") ∷ (codes "m", n 2) ∷ []) ∷ []))) ∷
    (call op.Limit (call op.OrderBy (slot 1 ∷ call op.Desc (name "m" ∷ []) ∷ []) ∷ num 1 ∷ []), Ok (selection 1 rows_in_array (o ((codes "key", t "b") ∷ (codes "m", n 2) ∷ []) ∷ []))) ∷
    (call op.Limit (call op.Range (num 5 ∷ []) ∷ num 0 ∷ []), Ok (stream [])) ∷
    (call op.IsEmpty (array [] ∷ []), Ok (one (boolean true))) ∷
    (call op.IsEmpty (slot 0 ∷ []), Ok (one (boolean false))) ∷
    (call op.OffsetsOf (array (name "a" ∷ name "b" ∷ name "a" ∷ []) ∷ name "a" ∷ []), Ok (one (a (n 0 ∷ n 2 ∷ [])))) ∷
    (call op.OffsetsOf (array (num 1 ∷ num 2 ∷ num 3 ∷ []) ∷ fun (call op.Gt (var ∷ num 1 ∷ [])) ∷ []), Ok (one (a (n 1 ∷ n 2 ∷ [])))) ∷
    (call op.Contains (array (num 1 ∷ num 2 ∷ []) ∷ num 2 ∷ []), Ok (one (boolean true))) ∷
    (call op.Contains (array (num 1 ∷ num 2 ∷ []) ∷ num 2 ∷ fun (call op.Gt (var ∷ num 2 ∷ [])) ∷ []), Ok (one (boolean false))) ∷
    (call op.Contains (array [] ∷ num 1 ∷ []), Ok (one (boolean false))) ∷
    (call op.Range (num 3 ∷ []), Ok (stream (n 0 ∷ n 1 ∷ n 2 ∷ []))) ∷
    (call op.Range (num 2 ∷ num 4 ∷ []), Ok (stream (n 2 ∷ n 3 ∷ []))) ∷
    (call op.Range (num 4 ∷ num 2 ∷ []), Ok (stream [])) ∷
    []

abbrev pub joins : List Case
joins =
    (call op.InnerJoin (array (num 1 ∷ num 2 ∷ []) ∷ array (num 2 ∷ num 3 ∷ []) ∷ fun_of_two (call op.Eq (var ∷ variable 2 ∷ [])) ∷ []), Ok (one (a (o ((codes "left", n 2) ∷ (codes "right", n 2) ∷ []) ∷ [])))) ∷
    (call op.OuterJoin (array (num 1 ∷ num 2 ∷ []) ∷ array (num 2 ∷ num 3 ∷ []) ∷ fun_of_two (call op.Eq (var ∷ variable 2 ∷ [])) ∷ []), Ok (one (a (o ((codes "left", n 1) ∷ []) ∷ o ((codes "left", n 2) ∷ (codes "right", n 2) ∷ []) ∷ [])))) ∷
    (call op.InnerJoin (slot 1 ∷ array (num 1 ∷ []) ∷ fun_of_two (call op.Eq (field "m" ∷ variable 2 ∷ [])) ∷ []), Ok (stream (o ((codes "left", o ((codes "key", t "a") ∷ (codes "m", n 1) ∷ [])) ∷ (codes "right", n 1) ∷ []) ∷ []))) ∷
    (call op.EqJoin (literal (a (o ((codes "a", n 2) ∷ []) ∷ o ((codes "a", n 9) ∷ []) ∷ o ((codes "a", null) ∷ []) ∷ o [] ∷ [])) ∷ name "a" ∷ slot 0 ∷ []), Ok (one (a (o ((codes "left", o ((codes "a", n 2) ∷ [])) ∷ (codes "right", o ((codes "g", t "y") ∷ (codes "id", n 2) ∷ (codes "n", n 3) ∷ [])) ∷ []) ∷ [])))) ∷
    (with op.EqJoin (literal (a (o ((codes "a", n 5) ∷ []) ∷ [])) ∷ name "a" ∷ slot 0 ∷ []) ((codes "index", name "n") ∷ []), Ok (one (a (o ((codes "left", o ((codes "a", n 5) ∷ [])) ∷ (codes "right", o ((codes "g", t "x") ∷ (codes "id", n 1) ∷ (codes "n", n 5) ∷ (codes "tags", a (t "a" ∷ t "b" ∷ t "a" ∷ [])) ∷ [])) ∷ []) ∷ o ((codes "left", o ((codes "a", n 5) ∷ [])) ∷ (codes "right", o ((codes "g", t "x") ∷ (codes "id", n 3) ∷ (codes "n", n 5) ∷ (codes "o", o ((codes "p", n 1) ∷ (codes "q", a (n 1 ∷ n 2 ∷ [])) ∷ [])) ∷ (codes "tags", a (t "b" ∷ null ∷ n 7 ∷ [])) ∷ [])) ∷ []) ∷ [])))) ∷
    (with op.EqJoin (array (num 3 ∷ []) ∷ fun var ∷ slot 0 ∷ []) ((codes "index", name "n") ∷ []), Ok (one (a (o ((codes "left", n 3) ∷ (codes "right", o ((codes "g", t "y") ∷ (codes "id", n 2) ∷ (codes "n", n 3) ∷ [])) ∷ []) ∷ [])))) ∷
    (call op.Zip (literal (a (o ((codes "left", o ((codes "a", n 1) ∷ (codes "b", n 2) ∷ [])) ∷ (codes "right", o ((codes "b", n 3) ∷ [])) ∷ []) ∷ o ((codes "left", n 1) ∷ []) ∷ [])) ∷ []), Ok (one (a (o ((codes "a", n 1) ∷ (codes "b", n 3) ∷ []) ∷ n 1 ∷ [])))) ∷
    (call op.Group (literal (a (o ((codes "a", n 2) ∷ []) ∷ o ((codes "a", n 1) ∷ []) ∷ o ((codes "a", n 2) ∷ []) ∷ o [] ∷ [])) ∷ name "a" ∷ []), Ok (grouped ((null, a (o [] ∷ [])) ∷ (n 1, a (o ((codes "a", n 1) ∷ []) ∷ [])) ∷ (n 2, a (o ((codes "a", n 2) ∷ []) ∷ o ((codes "a", n 2) ∷ []) ∷ [])) ∷ []))) ∷
    (call op.Group (array (num 1 ∷ num 2 ∷ num 3 ∷ []) ∷ fun (call op.Gt (var ∷ num 1 ∷ [])) ∷ []), Ok (grouped ((boolean false, a (n 1 ∷ [])) ∷ (boolean true, a (n 2 ∷ n 3 ∷ [])) ∷ []))) ∷
    (call op.Group (slot 1 ∷ name "m" ∷ fun (num 1) ∷ []), Ok (grouped ((a (n 1 ∷ n 1 ∷ []), a (o ((codes "key", t "a") ∷ (codes "m", n 1) ∷ []) ∷ [])) ∷ (a (n 2 ∷ n 1 ∷ []), a (o ((codes "key", t "b") ∷ (codes "m", n 2) ∷ []) ∷ [])) ∷ []))) ∷
    (with op.Group (slot 0 ∷ []) ((codes "index", name "n") ∷ []), Ok (grouped ((n 3, a (o ((codes "g", t "y") ∷ (codes "id", n 2) ∷ (codes "n", n 3) ∷ []) ∷ [])) ∷ (n 5, a (o ((codes "g", t "x") ∷ (codes "id", n 1) ∷ (codes "n", n 5) ∷ (codes "tags", a (t "a" ∷ t "b" ∷ t "a" ∷ [])) ∷ []) ∷ o ((codes "g", t "x") ∷ (codes "id", n 3) ∷ (codes "n", n 5) ∷ (codes "o", o ((codes "p", n 1) ∷ (codes "q", a (n 1 ∷ n 2 ∷ [])) ∷ [])) ∷ (codes "tags", a (t "b" ∷ null ∷ n 7 ∷ [])) ∷ []) ∷ [])) ∷ []))) ∷
    (with op.Group (slot 0 ∷ []) ((codes "index", name "gn") ∷ []), Ok (grouped ((a (t "x" ∷ n 5 ∷ []), a (o ((codes "g", t "x") ∷ (codes "id", n 1) ∷ (codes "n", n 5) ∷ (codes "tags", a (t "a" ∷ t "b" ∷ t "a" ∷ [])) ∷ []) ∷ o ((codes "g", t "x") ∷ (codes "id", n 3) ∷ (codes "n", n 5) ∷ (codes "o", o ((codes "p", n 1) ∷ (codes "q", a (n 1 ∷ n 2 ∷ [])) ∷ [])) ∷ (codes "tags", a (t "b" ∷ null ∷ n 7 ∷ [])) ∷ []) ∷ [])) ∷ (a (t "y" ∷ n 3 ∷ []), a (o ((codes "g", t "y") ∷ (codes "id", n 2) ∷ (codes "n", n 3) ∷ []) ∷ [])) ∷ []))) ∷
    (call op.Count (call op.Group (slot 0 ∷ name "g" ∷ []) ∷ []), Ok (grouped ((null, n 1) ∷ (t "x", n 2) ∷ (t "y", n 1) ∷ []))) ∷
    (call op.Map (call op.Group (array (num 1 ∷ num 2 ∷ []) ∷ fun (call op.Ge (var ∷ num 2 ∷ [])) ∷ []) ∷ fun (call op.Add (var ∷ num 1 ∷ [])) ∷ []), Ok (grouped ((boolean false, a (n 2 ∷ [])) ∷ (boolean true, a (n 3 ∷ [])) ∷ []))) ∷
    (call op.Ungroup (call op.Group (array (num 2 ∷ num 1 ∷ []) ∷ fun var ∷ []) ∷ []), Ok (one (a (o ((codes "group", n 1) ∷ (codes "reduction", a (n 1 ∷ [])) ∷ []) ∷ o ((codes "group", n 2) ∷ (codes "reduction", a (n 2 ∷ [])) ∷ []) ∷ [])))) ∷
    (call op.Sum (array (num 1 ∷ num 2 ∷ literal null ∷ []) ∷ []), Ok (one (n 3))) ∷
    (call op.Sum (literal (a (o ((codes "a", n 1) ∷ []) ∷ o [] ∷ o ((codes "a", null) ∷ []) ∷ o ((codes "a", n 3) ∷ []) ∷ [])) ∷ name "a" ∷ []), Ok (one (n 4))) ∷
    (call op.Sum (array [] ∷ []), Ok (one (n 0))) ∷
    (call op.Avg (array (num 1 ∷ num 3 ∷ literal null ∷ []) ∷ []), Ok (one (n 2))) ∷
    (call op.Min (array (num 3 ∷ num 1 ∷ num 2 ∷ []) ∷ []), Ok (one (n 1))) ∷
    (call op.Max (literal (a (o ((codes "a", n 1) ∷ (codes "b", n 1) ∷ []) ∷ o ((codes "a", n 2) ∷ (codes "b", n 2) ∷ []) ∷ o ((codes "a", n 2) ∷ (codes "b", n 3) ∷ []) ∷ o [] ∷ [])) ∷ name "a" ∷ []), Ok (one (o ((codes "a", n 2) ∷ (codes "b", n 2) ∷ [])))) ∷
    (call op.Min (literal (a (o ((codes "a", n 2) ∷ []) ∷ o ((codes "a", n 1) ∷ (codes "b", n 1) ∷ []) ∷ o ((codes "a", n 1) ∷ []) ∷ [])) ∷ name "a" ∷ []), Ok (one (o ((codes "a", n 1) ∷ (codes "b", n 1) ∷ [])))) ∷
    (call op.Sum (call op.Group (literal (a (o ((codes "k", n 1) ∷ (codes "v", n 2) ∷ []) ∷ o ((codes "k", n 1) ∷ (codes "v", n 3) ∷ []) ∷ o ((codes "k", n 2) ∷ (codes "v", n 4) ∷ []) ∷ [])) ∷ name "k" ∷ []) ∷ name "v" ∷ []), Ok (grouped ((n 1, n 5) ∷ (n 2, n 4) ∷ []))) ∷
    (call op.Default (call op.Group (array (literal null ∷ []) ∷ fun (num 1) ∷ []) ∷ num 5 ∷ []), Ok (grouped ((n 1, a (null ∷ [])) ∷ []))) ∷
    (call op.Or (call op.Group (array (literal (boolean false) ∷ []) ∷ fun (num 1) ∷ []) ∷ num 7 ∷ []), Ok (grouped ((n 1, a (boolean false ∷ [])) ∷ []))) ∷
    []
