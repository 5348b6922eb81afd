-- Terms of values and logic, each with what it gives over the tables of Short.
use Rattle.std.specs.Prelude.{pos, List, [], ◌∷◌, true, false, Ok, Err, codes}
use Rattle.reql_datum.specs.Answer.{query_logic, non_existence, user}
use Rattle.reql_datum.specs.Plain.{low, high, boolean, null, time, binary, text}
use Rattle.reql_term.specs.Form.{literal, variable, implicit, function, slot}
use Rattle.reql_term.specs.declared.op.Op.TheVariants as op
use Rattle.reql_value_spec.specs.Meant.{one, stream}
use Rattle.reql_value_spec.specs.Short.{Case, t, n, minus, a, o, num, name, call, array, members, var, fun, fun_of_two}

abbrev pub scalars : List Case
scalars =
    (array (num 1 ∷ name "a" ∷ []), Ok (one (a (n 1 ∷ t "a" ∷ [])))) ∷
    (array [], Ok (one (a []))) ∷
    (members ((codes "a", num 1) ∷ (codes "b", num 2) ∷ []), Ok (one (o ((codes "a", n 1) ∷ (codes "b", n 2) ∷ [])))) ∷
    (members [], Ok (one (o []))) ∷
    (call op.Funcall (fun var ∷ num 7 ∷ []), Ok (one (n 7))) ∷
    (call op.Funcall (fun (call op.Map (array (num 1 ∷ []) ∷ function (2 ∷ []) implicit ∷ [])) ∷ num 7 ∷ []), Ok (one (a (n 1 ∷ [])))) ∷
    (call op.Error [], Err (query_logic (codes "Empty ERROR term outside a default block."))) ∷
    (call op.Error (name "boom" ∷ []), Err (user (codes "boom"))) ∷
    (call op.Eq (num 1 ∷ num 1 ∷ num 1 ∷ []), Ok (one (boolean true))) ∷
    (call op.Eq (num 1 ∷ num 2 ∷ []), Ok (one (boolean false))) ∷
    (call op.Ne (num 1 ∷ num 1 ∷ num 2 ∷ []), Ok (one (boolean true))) ∷
    (call op.Ne (num 1 ∷ []), Ok (one (boolean false))) ∷
    (call op.Lt (num 1 ∷ num 2 ∷ num 3 ∷ []), Ok (one (boolean true))) ∷
    (call op.Lt (num 2 ∷ num 2 ∷ []), Ok (one (boolean false))) ∷
    (call op.Le (num 1 ∷ num 1 ∷ num 2 ∷ []), Ok (one (boolean true))) ∷
    (call op.Gt (num 3 ∷ num 2 ∷ num 2 ∷ []), Ok (one (boolean false))) ∷
    (call op.Ge (num 3 ∷ num 2 ∷ num 2 ∷ []), Ok (one (boolean true))) ∷
    (call op.Lt (array [] ∷ literal (boolean false) ∷ literal null ∷ num 0 ∷ members [] ∷ name "a" ∷ []), Ok (one (boolean true))) ∷
    (call op.Not (literal null ∷ []), Ok (one (boolean true))) ∷
    (call op.Not (num 0 ∷ []), Ok (one (boolean false))) ∷
    (call op.Add (num 1 ∷ num 2 ∷ num 3 ∷ []), Ok (one (n 6))) ∷
    (call op.Add (name "a" ∷ name "b" ∷ []), Ok (one (t "ab"))) ∷
    (call op.Add (array (num 1 ∷ []) ∷ array (num 2 ∷ []) ∷ []), Ok (one (a (n 1 ∷ n 2 ∷ [])))) ∷
    (call op.Add (call op.EpochTime (num 100 ∷ []) ∷ num 20 ∷ []), Ok (one (time (pos 120, pos 0)))) ∷
    (call op.Sub (num 10 ∷ num 2 ∷ num 3 ∷ []), Ok (one (n 5))) ∷
    (call op.Sub (call op.EpochTime (num 100 ∷ []) ∷ num 20 ∷ []), Ok (one (time (pos 80, pos 0)))) ∷
    (call op.Sub (call op.EpochTime (num 100 ∷ []) ∷ call op.EpochTime (num 70 ∷ []) ∷ num 5 ∷ []), Ok (one (n 25))) ∷
    (call op.Mul (num 2 ∷ num 3 ∷ []), Ok (one (n 6))) ∷
    (call op.Div (num 12 ∷ num 2 ∷ num 3 ∷ []), Ok (one (n 2))) ∷
    (call op.Mod (literal (minus 7) ∷ num 3 ∷ []), Ok (one (minus 1))) ∷
    (call op.Mod (num 7 ∷ literal (minus 3) ∷ []), Ok (one (n 1))) ∷
    (call op.CoerceTo (members ((codes "a", num 1) ∷ (codes "b", num 2) ∷ []) ∷ name "array" ∷ []), Ok (one (a (a (t "a" ∷ n 1 ∷ []) ∷ a (t "b" ∷ n 2 ∷ []) ∷ [])))) ∷
    (call op.CoerceTo (call op.Range (num 2 ∷ []) ∷ name "array" ∷ []), Ok (one (a (n 0 ∷ n 1 ∷ [])))) ∷
    (call op.CoerceTo (array (array (name "a" ∷ num 1 ∷ []) ∷ []) ∷ name "object" ∷ []), Ok (one (o ((codes "a", n 1) ∷ [])))) ∷
    (call op.CoerceTo (num 5 ∷ name "string" ∷ []), Ok (one (t "5"))) ∷
    (call op.CoerceTo (name "x" ∷ name "string" ∷ []), Ok (one (t "x"))) ∷
    (call op.CoerceTo (array (num 1 ∷ literal null ∷ literal (boolean true) ∷ []) ∷ name "string" ∷ []), Ok (one (t "[1,null,true]"))) ∷
    (call op.CoerceTo (literal (binary (97 ∷ 98 ∷ [])) ∷ name "string" ∷ []), Ok (one (t "ab"))) ∷
    (call op.CoerceTo (call op.EpochTime (num 5 ∷ []) ∷ name "string" ∷ []), Ok (one (t "{\"$reql_type$\":\"TIME\",\"epoch_time\":5,\"timezone\":\"+00:00\"}"))) ∷
    (call op.CoerceTo (members ((codes "a", name "b") ∷ []) ∷ name "string" ∷ []), Ok (one (t "{\"a\":\"b\"}"))) ∷
    (call op.CoerceTo (name "-12" ∷ name "number" ∷ []), Ok (one (minus 12))) ∷
    (call op.CoerceTo (num 3 ∷ name "number" ∷ []), Ok (one (n 3))) ∷
    (call op.CoerceTo (literal null ∷ name "bool" ∷ []), Ok (one (boolean false))) ∷
    (call op.CoerceTo (num 0 ∷ name "bool" ∷ []), Ok (one (boolean true))) ∷
    (call op.CoerceTo (name "ab" ∷ name "binary" ∷ []), Ok (one (binary (97 ∷ 98 ∷ [])))) ∷
    (call op.CoerceTo (literal (binary []) ∷ name "binary" ∷ []), Ok (one (binary []))) ∷
    (call op.TypeOf (call op.Minval [] ∷ []), Ok (one (t "MINVAL"))) ∷
    (call op.TypeOf (array [] ∷ []), Ok (one (t "ARRAY"))) ∷
    (call op.TypeOf (literal (boolean true) ∷ []), Ok (one (t "BOOL"))) ∷
    (call op.TypeOf (literal null ∷ []), Ok (one (t "NULL"))) ∷
    (call op.TypeOf (num 1 ∷ []), Ok (one (t "NUMBER"))) ∷
    (call op.TypeOf (members [] ∷ []), Ok (one (t "OBJECT"))) ∷
    (call op.TypeOf (literal (binary []) ∷ []), Ok (one (t "PTYPE<BINARY>"))) ∷
    (call op.TypeOf (call op.EpochTime (num 0 ∷ []) ∷ []), Ok (one (t "PTYPE<TIME>"))) ∷
    (call op.TypeOf (literal (text []) ∷ []), Ok (one (t "STRING"))) ∷
    (call op.TypeOf (call op.Maxval [] ∷ []), Ok (one (t "MAXVAL"))) ∷
    (call op.TypeOf (call op.Literal [] ∷ []), Ok (one (t "PTYPE<LITERAL>"))) ∷
    (call op.TypeOf (slot 0 ∷ []), Ok (one (t "TABLE"))) ∷
    (call op.TypeOf (call op.Between (slot 0 ∷ call op.Minval [] ∷ call op.Maxval [] ∷ []) ∷ []), Ok (one (t "TABLE_SLICE"))) ∷
    (call op.TypeOf (call op.Db (name "test" ∷ []) ∷ []), Ok (one (t "DB"))) ∷
    (call op.TypeOf (call op.Range (num 1 ∷ []) ∷ []), Ok (one (t "STREAM"))) ∷
    (call op.TypeOf (call op.GetAll (slot 0 ∷ num 1 ∷ []) ∷ []), Ok (one (t "SELECTION<STREAM>"))) ∷
    (call op.TypeOf (call op.OrderBy (slot 0 ∷ name "n" ∷ []) ∷ []), Ok (one (t "SELECTION<ARRAY>"))) ∷
    (call op.TypeOf (call op.Get (slot 0 ∷ num 1 ∷ []) ∷ []), Ok (one (t "SELECTION<OBJECT>"))) ∷
    (call op.TypeOf (call op.Get (slot 0 ∷ num 9 ∷ []) ∷ []), Ok (one (t "NULL"))) ∷
    (call op.TypeOf (fun var ∷ []), Ok (one (t "FUNCTION"))) ∷
    (call op.Funcall (fun_of_two (call op.Sub (var ∷ variable 2 ∷ [])) ∷ num 5 ∷ num 3 ∷ []), Ok (one (n 2))) ∷
    (call op.Funcall (num 7 ∷ []), Ok (one (n 7))) ∷
    (call op.Funcall (fun (call op.Range (var ∷ [])) ∷ num 2 ∷ []), Ok (stream (n 0 ∷ n 1 ∷ []))) ∷
    (call op.Branch (literal (boolean false) ∷ num 1 ∷ literal (boolean true) ∷ num 2 ∷ num 3 ∷ []), Ok (one (n 2))) ∷
    (call op.Branch (literal null ∷ num 1 ∷ num 2 ∷ []), Ok (one (n 2))) ∷
    (call op.Branch (num 0 ∷ num 1 ∷ call op.Error [] ∷ []), Ok (one (n 1))) ∷
    (call op.Branch (literal (boolean false) ∷ num 1 ∷ call op.Range (num 1 ∷ []) ∷ []), Ok (stream (n 0 ∷ []))) ∷
    (call op.Or [], Ok (one (boolean false))) ∷
    (call op.Or (literal null ∷ literal (boolean false) ∷ []), Ok (one (boolean false))) ∷
    (call op.Or (literal (boolean false) ∷ num 5 ∷ call op.Error [] ∷ []), Ok (one (n 5))) ∷
    (call op.And [], Ok (one (boolean true))) ∷
    (call op.And (num 1 ∷ num 2 ∷ []), Ok (one (n 2))) ∷
    (call op.And (num 1 ∷ literal null ∷ call op.Error [] ∷ []), Ok (one null)) ∷
    (call op.And (literal (boolean true) ∷ call op.Range (num 1 ∷ []) ∷ []), Ok (stream (n 0 ∷ []))) ∷
    (call op.Default (num 1 ∷ call op.Error [] ∷ []), Ok (one (n 1))) ∷
    (call op.Default (literal null ∷ num 2 ∷ []), Ok (one (n 2))) ∷
    (call op.Default (literal null ∷ fun var ∷ []), Ok (one null)) ∷
    (call op.Default (call op.GetField (members [] ∷ name "a" ∷ []) ∷ fun var ∷ []), Ok (one (t "No attribute `a` in object."))) ∷
    (call op.Default (call op.GetField (members [] ∷ name "a" ∷ []) ∷ call op.Error [] ∷ []), Err (non_existence (codes "No attribute `a` in object."))) ∷
    (call op.Default (literal null ∷ call op.Error [] ∷ []), Ok (one null)) ∷
    (call op.Default (call op.Div (num 1 ∷ num 0 ∷ []) ∷ num 5 ∷ []), Err (query_logic (codes "Cannot divide by zero."))) ∷
    (call op.Default (call op.Get (slot 0 ∷ num 9 ∷ []) ∷ num 4 ∷ []), Ok (one (n 4))) ∷
    (call op.Literal [], Ok (one (o ((codes "$reql_type$", t "LITERAL") ∷ [])))) ∷
    (call op.Literal (num 1 ∷ []), Ok (one (o ((codes "$reql_type$", t "LITERAL") ∷ (codes "value", n 1) ∷ [])))) ∷
    (call op.Minval [], Ok (one low)) ∷
    (call op.Maxval [], Ok (one high)) ∷
    (call op.EpochTime (num 5 ∷ []), Ok (one (time (pos 5, pos 0)))) ∷
    (call op.ToEpochTime (call op.EpochTime (num 5 ∷ []) ∷ []), Ok (one (n 5))) ∷
    []
