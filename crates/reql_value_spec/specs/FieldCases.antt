-- Terms of arrays and fields, each with what it gives over the tables of Short.
use Rattle.std.specs.Prelude.{List, [], ◌∷◌, true, false, Ok, codes}
use Rattle.reql_datum.specs.Plain.{boolean, null}
use Rattle.reql_term.specs.Form.{literal, slot}
use Rattle.reql_term.specs.declared.op.Op.TheVariants as op
use Rattle.reql_value_spec.specs.Meant.{one, stream, selection, some_rows}
use Rattle.reql_value_spec.specs.Short.{Case, t, n, minus, a, o, num, name, call, with, array, members, fun, field}

abbrev pub arrays : List Case
arrays =
    (call op.Append (array (num 1 ∷ []) ∷ num 2 ∷ []), Ok (one (a (n 1 ∷ n 2 ∷ [])))) ∷
    (call op.Prepend (array (num 1 ∷ []) ∷ num 2 ∷ []), Ok (one (a (n 2 ∷ n 1 ∷ [])))) ∷
    (call op.Slice (array (num 1 ∷ num 2 ∷ num 3 ∷ []) ∷ num 1 ∷ []), Ok (one (a (n 2 ∷ n 3 ∷ [])))) ∷
    (call op.Slice (array (num 1 ∷ num 2 ∷ num 3 ∷ []) ∷ literal (minus 2) ∷ num 3 ∷ []), Ok (one (a (n 2 ∷ n 3 ∷ [])))) ∷
    (with op.Slice (array (num 1 ∷ num 2 ∷ num 3 ∷ []) ∷ num 0 ∷ num 1 ∷ []) ((codes "right_bound", name "closed") ∷ []), Ok (one (a (n 1 ∷ n 2 ∷ [])))) ∷
    (with op.Slice (array (num 1 ∷ num 2 ∷ num 3 ∷ []) ∷ num 0 ∷ []) ((codes "left_bound", name "open") ∷ []), Ok (one (a (n 2 ∷ n 3 ∷ [])))) ∷
    (call op.Slice (array (num 1 ∷ num 2 ∷ num 3 ∷ []) ∷ num 5 ∷ []), Ok (one (a []))) ∷
    (call op.Slice (slot 1 ∷ num 1 ∷ []), Ok (selection 1 some_rows (o ((codes "key", t "b") ∷ (codes "m", n 2) ∷ []) ∷ []))) ∷
    (call op.Slice (call op.Range (num 4 ∷ []) ∷ num 1 ∷ literal (minus 1) ∷ []), Ok (stream (n 1 ∷ n 2 ∷ []))) ∷
    (call op.InsertAt (array (num 1 ∷ num 2 ∷ []) ∷ num 1 ∷ num 9 ∷ []), Ok (one (a (n 1 ∷ n 9 ∷ n 2 ∷ [])))) ∷
    (call op.InsertAt (array (num 1 ∷ num 2 ∷ []) ∷ literal (minus 1) ∷ num 9 ∷ []), Ok (one (a (n 1 ∷ n 2 ∷ n 9 ∷ [])))) ∷
    (call op.InsertAt (array (num 1 ∷ num 2 ∷ []) ∷ num 2 ∷ num 9 ∷ []), Ok (one (a (n 1 ∷ n 2 ∷ n 9 ∷ [])))) ∷
    (call op.DeleteAt (array (num 1 ∷ num 2 ∷ num 3 ∷ []) ∷ literal (minus 1) ∷ []), Ok (one (a (n 1 ∷ n 2 ∷ [])))) ∷
    (call op.DeleteAt (array (num 1 ∷ num 2 ∷ num 3 ∷ []) ∷ num 0 ∷ num 2 ∷ []), Ok (one (a (n 3 ∷ [])))) ∷
    (call op.DeleteAt (array (num 1 ∷ num 2 ∷ num 3 ∷ []) ∷ num 1 ∷ num 3 ∷ []), Ok (one (a (n 1 ∷ [])))) ∷
    (call op.ChangeAt (array (num 1 ∷ num 2 ∷ []) ∷ num 1 ∷ num 9 ∷ []), Ok (one (a (n 1 ∷ n 9 ∷ [])))) ∷
    (call op.ChangeAt (array (num 1 ∷ num 2 ∷ []) ∷ literal (minus 2) ∷ num 9 ∷ []), Ok (one (a (n 9 ∷ n 2 ∷ [])))) ∷
    (call op.SpliceAt (array (num 1 ∷ num 2 ∷ []) ∷ num 1 ∷ array (num 7 ∷ num 8 ∷ []) ∷ []), Ok (one (a (n 1 ∷ n 7 ∷ n 8 ∷ n 2 ∷ [])))) ∷
    (call op.SpliceAt (array (num 1 ∷ num 2 ∷ []) ∷ literal (minus 1) ∷ array (num 7 ∷ []) ∷ []), Ok (one (a (n 1 ∷ n 2 ∷ n 7 ∷ [])))) ∷
    (call op.SetInsert (array (num 1 ∷ num 1 ∷ []) ∷ num 2 ∷ []), Ok (one (a (n 1 ∷ n 2 ∷ [])))) ∷
    (call op.SetInsert (array (num 2 ∷ num 1 ∷ num 2 ∷ []) ∷ num 1 ∷ []), Ok (one (a (n 2 ∷ n 1 ∷ [])))) ∷
    (call op.SetUnion (array (num 1 ∷ num 2 ∷ []) ∷ array (num 2 ∷ num 3 ∷ num 3 ∷ []) ∷ []), Ok (one (a (n 1 ∷ n 2 ∷ n 3 ∷ [])))) ∷
    (call op.SetIntersection (array (num 3 ∷ num 1 ∷ num 3 ∷ []) ∷ array (num 3 ∷ []) ∷ []), Ok (one (a (n 3 ∷ [])))) ∷
    (call op.SetDifference (array (num 1 ∷ num 1 ∷ num 2 ∷ []) ∷ array (num 2 ∷ []) ∷ []), Ok (one (a (n 1 ∷ [])))) ∷
    (call op.Difference (array (num 1 ∷ num 1 ∷ num 2 ∷ []) ∷ array (num 2 ∷ []) ∷ []), Ok (one (a (n 1 ∷ n 1 ∷ [])))) ∷
    []

abbrev pub fields : List Case
fields =
    (call op.GetField (members ((codes "a", num 1) ∷ []) ∷ name "a" ∷ []), Ok (one (n 1))) ∷
    (call op.GetField (array (members ((codes "a", num 1) ∷ []) ∷ members ((codes "b", num 2) ∷ []) ∷ []) ∷ name "a" ∷ []), Ok (one (a (n 1 ∷ [])))) ∷
    (call op.GetField (slot 1 ∷ name "m" ∷ []), Ok (stream (n 1 ∷ n 2 ∷ []))) ∷
    (call op.GetField (call op.Get (slot 0 ∷ num 1 ∷ []) ∷ name "n" ∷ []), Ok (one (n 5))) ∷
    (call op.GetField (literal (a (o ((codes "a", n 1) ∷ []) ∷ null ∷ a (o ((codes "a", n 2) ∷ []) ∷ []) ∷ [])) ∷ name "a" ∷ []), Ok (one (a (n 1 ∷ a (n 2 ∷ []) ∷ [])))) ∷
    (call op.Bracket (members ((codes "a", num 1) ∷ []) ∷ name "a" ∷ []), Ok (one (n 1))) ∷
    (call op.Bracket (array (num 7 ∷ num 8 ∷ []) ∷ literal (minus 1) ∷ []), Ok (one (n 8))) ∷
    (call op.Bracket (slot 1 ∷ name "m" ∷ []), Ok (stream (n 1 ∷ n 2 ∷ []))) ∷
    (call op.Bracket (slot 1 ∷ num 0 ∷ []), Ok (one (o ((codes "key", t "a") ∷ (codes "m", n 1) ∷ [])))) ∷
    (call op.HasFields (members ((codes "a", num 1) ∷ (codes "b", literal null) ∷ []) ∷ name "a" ∷ []), Ok (one (boolean true))) ∷
    (call op.HasFields (members ((codes "a", num 1) ∷ (codes "b", literal null) ∷ []) ∷ name "a" ∷ name "b" ∷ []), Ok (one (boolean false))) ∷
    (call op.HasFields (array (members ((codes "a", num 1) ∷ []) ∷ literal null ∷ members ((codes "b", num 2) ∷ []) ∷ []) ∷ name "a" ∷ []), Ok (one (a (o ((codes "a", n 1) ∷ []) ∷ [])))) ∷
    (call op.HasFields (literal (o ((codes "a", o ((codes "b", n 1) ∷ [])) ∷ [])) ∷ literal (o ((codes "a", o ((codes "b", boolean true) ∷ [])) ∷ [])) ∷ []), Ok (one (boolean true))) ∷
    (call op.HasFields (literal (o ((codes "a", n 1) ∷ [])) ∷ literal (o ((codes "a", o []) ∷ [])) ∷ []), Ok (one (boolean false))) ∷
    (call op.Pluck (members ((codes "a", num 1) ∷ (codes "b", num 2) ∷ []) ∷ name "a" ∷ []), Ok (one (o ((codes "a", n 1) ∷ [])))) ∷
    (call op.Pluck (literal (o ((codes "a", o ((codes "b", n 1) ∷ (codes "c", n 2) ∷ [])) ∷ [])) ∷ literal (o ((codes "a", t "b") ∷ [])) ∷ []), Ok (one (o ((codes "a", o ((codes "b", n 1) ∷ [])) ∷ [])))) ∷
    (call op.Pluck (literal (o ((codes "a", n 5) ∷ [])) ∷ literal (o ((codes "a", o ((codes "b", boolean true) ∷ [])) ∷ [])) ∷ []), Ok (one (o []))) ∷
    (call op.Pluck (literal (o ((codes "a", o ((codes "b", n 5) ∷ [])) ∷ [])) ∷ literal (o ((codes "a", o ((codes "c", boolean true) ∷ [])) ∷ [])) ∷ []), Ok (one (o ((codes "a", o []) ∷ [])))) ∷
    (call op.Pluck (literal (o ((codes "a", a (n 1 ∷ o ((codes "b", n 5) ∷ (codes "c", n 6) ∷ []) ∷ [])) ∷ [])) ∷ literal (o ((codes "a", t "b") ∷ [])) ∷ []), Ok (one (o ((codes "a", a (o ((codes "b", n 5) ∷ []) ∷ [])) ∷ [])))) ∷
    (call op.Pluck (array (members ((codes "a", num 1) ∷ (codes "b", num 2) ∷ []) ∷ []) ∷ literal (a (t "a" ∷ t "c" ∷ [])) ∷ []), Ok (one (a (o ((codes "a", n 1) ∷ []) ∷ [])))) ∷
    (call op.Pluck (call op.Get (slot 0 ∷ num 2 ∷ []) ∷ name "n" ∷ []), Ok (one (o ((codes "n", n 3) ∷ [])))) ∷
    (call op.Without (members ((codes "a", num 1) ∷ (codes "b", num 2) ∷ []) ∷ name "a" ∷ []), Ok (one (o ((codes "b", n 2) ∷ [])))) ∷
    (call op.Without (literal (o ((codes "a", o ((codes "b", n 1) ∷ (codes "c", n 2) ∷ [])) ∷ [])) ∷ literal (o ((codes "a", o ((codes "b", boolean true) ∷ [])) ∷ [])) ∷ []), Ok (one (o ((codes "a", o ((codes "c", n 2) ∷ [])) ∷ [])))) ∷
    (call op.Without (literal (o ((codes "a", a (n 1 ∷ o ((codes "b", n 5) ∷ (codes "c", n 6) ∷ []) ∷ [])) ∷ [])) ∷ literal (o ((codes "a", t "b") ∷ [])) ∷ []), Ok (one (o ((codes "a", a (n 1 ∷ o ((codes "c", n 6) ∷ []) ∷ [])) ∷ [])))) ∷
    (call op.Without (slot 1 ∷ name "m" ∷ []), Ok (stream (o ((codes "key", t "a") ∷ []) ∷ o ((codes "key", t "b") ∷ []) ∷ []))) ∷
    (call op.WithFields (array (members ((codes "a", num 1) ∷ (codes "b", num 2) ∷ []) ∷ members ((codes "b", num 3) ∷ []) ∷ literal null ∷ []) ∷ name "a" ∷ []), Ok (one (a (o ((codes "a", n 1) ∷ []) ∷ [])))) ∷
    (call op.WithFields (slot 0 ∷ name "tags" ∷ name "id" ∷ []), Ok (stream (o ((codes "id", n 1) ∷ (codes "tags", a (t "a" ∷ t "b" ∷ t "a" ∷ [])) ∷ []) ∷ o ((codes "id", n 3) ∷ (codes "tags", a (t "b" ∷ null ∷ n 7 ∷ [])) ∷ []) ∷ []))) ∷
    (call op.Merge (members ((codes "a", num 1) ∷ []) ∷ members ((codes "b", num 2) ∷ []) ∷ []), Ok (one (o ((codes "a", n 1) ∷ (codes "b", n 2) ∷ [])))) ∷
    (call op.Merge (literal (o ((codes "a", o ((codes "b", n 1) ∷ [])) ∷ [])) ∷ literal (o ((codes "a", o ((codes "c", n 2) ∷ [])) ∷ [])) ∷ []), Ok (one (o ((codes "a", o ((codes "b", n 1) ∷ (codes "c", n 2) ∷ [])) ∷ [])))) ∷
    (call op.Merge (literal (o ((codes "a", o ((codes "b", n 1) ∷ [])) ∷ [])) ∷ literal (o ((codes "a", o ((codes "$reql_type$", t "LITERAL") ∷ (codes "value", o ((codes "c", n 2) ∷ [])) ∷ [])) ∷ [])) ∷ []), Ok (one (o ((codes "a", o ((codes "c", n 2) ∷ [])) ∷ [])))) ∷
    (call op.Merge (literal (o ((codes "a", n 1) ∷ (codes "b", n 2) ∷ [])) ∷ literal (o ((codes "a", o ((codes "$reql_type$", t "LITERAL") ∷ [])) ∷ [])) ∷ []), Ok (one (o ((codes "b", n 2) ∷ [])))) ∷
    (call op.Merge (members ((codes "a", num 1) ∷ []) ∷ literal (o ((codes "b", o ((codes "c", o ((codes "$reql_type$", t "LITERAL") ∷ [])) ∷ (codes "d", o ((codes "$reql_type$", t "LITERAL") ∷ (codes "value", n 3) ∷ [])) ∷ [])) ∷ [])) ∷ []), Ok (one (o ((codes "a", n 1) ∷ (codes "b", o ((codes "d", n 3) ∷ [])) ∷ [])))) ∷
    (call op.Merge (literal (o ((codes "a", n 1) ∷ [])) ∷ literal (o ((codes "a", a (o ((codes "$reql_type$", t "LITERAL") ∷ (codes "value", n 1) ∷ []) ∷ [])) ∷ [])) ∷ []), Ok (one (o ((codes "a", a (o ((codes "$reql_type$", t "LITERAL") ∷ (codes "value", n 1) ∷ []) ∷ [])) ∷ [])))) ∷
    (call op.Merge (members ((codes "a", num 1) ∷ []) ∷ fun (members ((codes "b", field "a") ∷ [])) ∷ fun (members ((codes "c", field "b") ∷ [])) ∷ []), Ok (one (o ((codes "a", n 1) ∷ (codes "b", n 1) ∷ (codes "c", n 1) ∷ [])))) ∷
    (call op.Merge (array (members ((codes "a", num 1) ∷ []) ∷ members [] ∷ []) ∷ members ((codes "a", num 2) ∷ []) ∷ []), Ok (one (a (o ((codes "a", n 2) ∷ []) ∷ o ((codes "a", n 2) ∷ []) ∷ [])))) ∷
    (call op.Keys (members ((codes "a", num 1) ∷ (codes "b", num 2) ∷ []) ∷ []), Ok (one (a (t "a" ∷ t "b" ∷ [])))) ∷
    (call op.Values (members ((codes "a", num 1) ∷ (codes "b", num 2) ∷ []) ∷ []), Ok (one (a (n 1 ∷ n 2 ∷ [])))) ∷
    (call op.Object (name "b" ∷ num 1 ∷ name "a" ∷ num 2 ∷ []), Ok (one (o ((codes "a", n 2) ∷ (codes "b", n 1) ∷ [])))) ∷
    (call op.Object [], Ok (one (o []))) ∷
    []
