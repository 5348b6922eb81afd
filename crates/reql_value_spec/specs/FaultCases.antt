-- Terms with each fault that evaluation gives, over the tables of Short; and with the limit of arrays, over the same tables under a limit of 2.
use Rattle.std.specs.Prelude.{List, [], ◌∷◌, true, Ok, Err, codes}
use Rattle.reql_datum.specs.Answer.{query_logic, non_existence, resource_limit, op_failed, user}
use Rattle.reql_datum.specs.Plain.{boolean, null, binary}
use Rattle.reql_term.specs.Form.{literal, variable, implicit, slot}
use Rattle.reql_term.specs.declared.op.Op.TheVariants as op
use Rattle.reql_value_spec.specs.Meant.{one, stream, grouped}
use Rattle.reql_value_spec.specs.Short.{Case, n, minus, a, o, num, name, call, with, array, members, var, fun, fun_of_two, field}

abbrev pub faults : List Case
faults =
    -- types
    (call op.Add (num 1 ∷ name "a" ∷ []), Err (query_logic (codes "Expected type NUMBER but found STRING."))) ∷
    (call op.Add (literal null ∷ num 1 ∷ []), Err (non_existence (codes "Expected type NUMBER but found NULL."))) ∷
    (call op.Append (num 5 ∷ num 1 ∷ []), Err (query_logic (codes "Expected type ARRAY but found NUMBER."))) ∷
    (call op.GetField (num 5 ∷ name "a" ∷ []), Err (query_logic (codes "Expected type OBJECT but found NUMBER."))) ∷
    (call op.Pluck (num 5 ∷ name "a" ∷ []), Err (query_logic (codes "Expected type OBJECT but found NUMBER."))) ∷
    (call op.Merge (num 1 ∷ members [] ∷ []), Err (query_logic (codes "Expected type OBJECT but found NUMBER."))) ∷
    (call op.Keys (array [] ∷ []), Err (query_logic (codes "Expected type OBJECT but found ARRAY."))) ∷
    (call op.Bracket (members [] ∷ literal (boolean true) ∷ []), Err (query_logic (codes "Expected type STRING but found BOOL."))) ∷
    (call op.Map (num 5 ∷ fun var ∷ []), Err (query_logic (codes "Expected type SEQUENCE but found NUMBER."))) ∷
    (call op.Get (array [] ∷ num 1 ∷ []), Err (query_logic (codes "Expected type TABLE but found ARRAY."))) ∷
    (call op.Not (call op.Range (num 1 ∷ []) ∷ []), Err (query_logic (codes "Expected type DATUM but found STREAM."))) ∷
    (call op.Add (call op.Get (slot 0 ∷ num 1 ∷ []) ∷ num 1 ∷ []), Err (query_logic (codes "Expected type NUMBER but found SELECTION<OBJECT>."))) ∷
    (call op.ToEpochTime (num 5 ∷ []), Err (query_logic (codes "Expected type PTYPE<TIME> but found NUMBER."))) ∷
    (call op.Ungroup (array [] ∷ []), Err (query_logic (codes "Expected type GROUPED_DATA but found ARRAY."))) ∷
    (call op.Group (call op.Group (array [] ∷ fun (num 1) ∷ []) ∷ fun (num 1) ∷ []), Ok (grouped [])) ∷
    (call op.Funcall (fun (num 1) ∷ call op.Range (num 1 ∷ []) ∷ []), Err (query_logic (codes "Expected type DATUM but found STREAM."))) ∷
    (call op.Map (array (num 1 ∷ []) ∷ fun (call op.Range (num 1 ∷ [])) ∷ []), Err (query_logic (codes "Expected type DATUM but found STREAM."))) ∷
    (call op.Count (num 5 ∷ []), Err (query_logic (codes "Expected type SEQUENCE but found NUMBER."))) ∷
    (call op.Count (members [] ∷ num 1 ∷ []), Err (query_logic (codes "Expected type SEQUENCE but found OBJECT."))) ∷
    (call op.Merge (members [] ∷ call op.Literal (num 1 ∷ []) ∷ []), Err (query_logic (codes "Expected type OBJECT but found PTYPE<LITERAL>."))) ∷
    (call op.GetField (call op.Literal [] ∷ name "a" ∷ []), Err (query_logic (codes "Expected type OBJECT but found PTYPE<LITERAL>."))) ∷
    (call op.Append (call op.Db (name "test" ∷ []) ∷ num 1 ∷ []), Err (query_logic (codes "Expected type ARRAY but found DB."))) ∷
    (call op.Config (num 1 ∷ []), Err (query_logic (codes "Expected type TABLE but found NUMBER."))) ∷
    (call op.SpliceAt (array [] ∷ num 0 ∷ num 1 ∷ []), Err (query_logic (codes "Expected type ARRAY but found NUMBER."))) ∷
    -- numbers
    (call op.Add (num 9007199254740992 ∷ num 1 ∷ []), Err (query_logic (codes "Number outside the range of whole numbers."))) ∷
    (call op.Sub (literal (minus 9007199254740992) ∷ num 1 ∷ []), Err (query_logic (codes "Number outside the range of whole numbers."))) ∷
    (call op.Mul (num 9007199254740992 ∷ num 2 ∷ []), Err (query_logic (codes "Number outside the range of whole numbers."))) ∷
    (call op.Div (num 1 ∷ num 0 ∷ []), Err (query_logic (codes "Cannot divide by zero."))) ∷
    (call op.Mod (num 1 ∷ num 0 ∷ []), Err (query_logic (codes "Cannot divide by zero."))) ∷
    (call op.Div (num 7 ∷ num 2 ∷ []), Err (query_logic (codes "Quotient is not a whole number."))) ∷
    (call op.Add (num 9007199254740992 ∷ num 1 ∷ name "a" ∷ []), Err (query_logic (codes "Expected type NUMBER but found STRING."))) ∷
    (call op.Sum (array (num 9007199254740992 ∷ num 1 ∷ literal (minus 1) ∷ []) ∷ []), Err (query_logic (codes "Number outside the range of whole numbers."))) ∷
    (call op.Avg (array (num 1 ∷ num 2 ∷ []) ∷ []), Err (query_logic (codes "Quotient is not a whole number."))) ∷
    (call op.Skip (array [] ∷ literal (minus 1) ∷ []), Err (query_logic (codes "Count is negative."))) ∷
    (call op.Limit (array [] ∷ literal (minus 1) ∷ []), Err (query_logic (codes "Count is negative."))) ∷
    -- coercions, patterns, names
    (call op.CoerceTo (call op.Range (num 1 ∷ []) ∷ name "object" ∷ []), Err (query_logic (codes "Cannot coerce STREAM to object."))) ∷
    (call op.CoerceTo (num 5 ∷ name "ARRAY" ∷ []), Err (query_logic (codes "Cannot coerce NUMBER to ARRAY."))) ∷
    (call op.CoerceTo (name "1x" ∷ name "number" ∷ []), Err (query_logic (codes "Cannot coerce STRING to number."))) ∷
    (call op.CoerceTo (literal null ∷ name "array" ∷ []), Err (query_logic (codes "Cannot coerce NULL to array."))) ∷
    (call op.CoerceTo (call op.Get (slot 0 ∷ num 1 ∷ []) ∷ name "object" ∷ []), Err (query_logic (codes "Cannot coerce SELECTION<OBJECT> to object."))) ∷
    (call op.CoerceTo (literal (binary (255 ∷ [])) ∷ name "string" ∷ []), Err (query_logic (codes "Cannot coerce PTYPE<BINARY> to string."))) ∷
    (call op.CoerceTo (array (num 1 ∷ []) ∷ name "object" ∷ []), Err (query_logic (codes "Cannot coerce ARRAY to object."))) ∷
    (call op.CoerceTo (array (array (name "a" ∷ num 1 ∷ []) ∷ array (name "a" ∷ num 2 ∷ []) ∷ []) ∷ name "object" ∷ []), Err (query_logic (codes "Bad name in object."))) ∷
    (call op.CoerceTo (call op.Minval [] ∷ name "string" ∷ []), Err (query_logic (codes "Value cannot be shown or stored."))) ∷
    (call op.Pluck (members [] ∷ num 5 ∷ []), Err (query_logic (codes "Invalid field pattern."))) ∷
    (call op.Without (members [] ∷ call op.Literal [] ∷ []), Err (query_logic (codes "Invalid field pattern."))) ∷
    (call op.Object (name "a" ∷ num 1 ∷ name "a" ∷ num 2 ∷ []), Err (query_logic (codes "Bad name in object."))) ∷
    (call op.Object (name "$reql_type$" ∷ num 1 ∷ []), Err (query_logic (codes "Bad name in object."))) ∷
    -- functions and errors
    (call op.Funcall (fun var ∷ []), Err (query_logic (codes "Expected 1 arguments but found 0."))) ∷
    (call op.Map (array (num 1 ∷ []) ∷ fun_of_two (num 1) ∷ []), Err (query_logic (codes "Expected 2 arguments but found 1."))) ∷
    (call op.Error [], Err (query_logic (codes "Empty ERROR term outside a default block."))) ∷
    (call op.Error (name "boom" ∷ []), Err (user (codes "boom"))) ∷
    (call op.Default (num 1 ∷ call op.Error [] ∷ []), Ok (one (n 1))) ∷
    (call op.Default (call op.Error (name "x" ∷ []) ∷ num 1 ∷ []), Err (user (codes "x"))) ∷
    -- options
    (with op.Slice (array [] ∷ num 0 ∷ []) ((codes "left_bound", name "half") ∷ []), Err (query_logic (codes "Bad value for optional argument `left_bound`."))) ∷
    (with op.Between (slot 0 ∷ num 1 ∷ num 2 ∷ []) ((codes "right_bound", num 3) ∷ []), Err (query_logic (codes "Bad value for optional argument `right_bound`."))) ∷
    (with op.Filter (array [] ∷ literal (boolean true) ∷ []) ((codes "default", num 1) ∷ []), Err (query_logic (codes "Bad value for optional argument `default`."))) ∷
    (with op.OrderBy (slot 0 ∷ []) ((codes "index", num 1) ∷ []), Err (query_logic (codes "Bad value for optional argument `index`."))) ∷
    (with op.GetAll (slot 0 ∷ num 1 ∷ []) ((codes "index", literal null) ∷ []), Err (query_logic (codes "Bad value for optional argument `index`."))) ∷
    (with op.Distinct (slot 0 ∷ []) ((codes "index", num 1) ∷ []), Err (query_logic (codes "Bad value for optional argument `index`."))) ∷
    -- keys
    (call op.Get (slot 0 ∷ literal null ∷ []), Err (query_logic (codes "Value of type NULL cannot be a key."))) ∷
    (call op.Get (slot 0 ∷ array (literal null ∷ []) ∷ []), Err (query_logic (codes "Value of type ARRAY cannot be a key."))) ∷
    (call op.Get (slot 0 ∷ members [] ∷ []), Err (query_logic (codes "Value of type OBJECT cannot be a key."))) ∷
    (call op.GetAll (slot 0 ∷ call op.Minval [] ∷ []), Err (query_logic (codes "Value of type MINVAL cannot be a key."))) ∷
    (call op.GetAll (slot 0 ∷ call op.Literal [] ∷ []), Err (query_logic (codes "Value of type PTYPE<LITERAL> cannot be a key."))) ∷
    (call op.Between (slot 0 ∷ literal null ∷ num 1 ∷ []), Err (query_logic (codes "Value of type NULL cannot be a key."))) ∷
    -- places of ASC, of orders and of indexes
    (call op.OrderBy (array [] ∷ []), Err (query_logic (codes "Misplaced ordering or index."))) ∷
    (with op.OrderBy (array [] ∷ []) ((codes "index", name "n") ∷ []), Err (query_logic (codes "Misplaced ordering or index."))) ∷
    (call op.Asc (name "a" ∷ []), Err (query_logic (codes "Misplaced ordering or index."))) ∷
    (call op.Desc (name "a" ∷ []), Err (query_logic (codes "Misplaced ordering or index."))) ∷
    (call op.Map (array (num 1 ∷ []) ∷ call op.Asc (name "a" ∷ []) ∷ []), Err (query_logic (codes "Misplaced ordering or index."))) ∷
    (with op.OrderBy (call op.Between (slot 0 ∷ num 1 ∷ num 2 ∷ []) ∷ []) ((codes "index", name "n") ∷ []), Err (query_logic (codes "Misplaced ordering or index."))) ∷
    (with op.Distinct (array [] ∷ []) ((codes "index", name "n") ∷ []), Err (query_logic (codes "Misplaced ordering or index."))) ∷
    (call op.Group (array [] ∷ []), Err (query_logic (codes "Misplaced ordering or index."))) ∷
    (with op.Group (array [] ∷ []) ((codes "index", name "n") ∷ []), Err (query_logic (codes "Misplaced ordering or index."))) ∷
    -- what is missing
    (call op.GetField (members [] ∷ name "a" ∷ []), Err (non_existence (codes "No attribute `a` in object."))) ∷
    (call op.GetField (literal null ∷ name "a" ∷ []), Err (non_existence (codes "Cannot take a field of null."))) ∷
    (call op.HasFields (literal null ∷ name "a" ∷ []), Err (non_existence (codes "Cannot take a field of null."))) ∷
    (call op.GetField (call op.Get (slot 0 ∷ num 9 ∷ []) ∷ name "a" ∷ []), Err (non_existence (codes "Cannot take a field of null."))) ∷
    (call op.Nth (array (num 1 ∷ []) ∷ num 1 ∷ []), Err (non_existence (codes "Index out of bounds: 1."))) ∷
    (call op.Nth (array (num 1 ∷ []) ∷ literal (minus 2) ∷ []), Err (non_existence (codes "Index out of bounds: -2."))) ∷
    (call op.InsertAt (array [] ∷ num 1 ∷ num 1 ∷ []), Err (non_existence (codes "Index out of bounds: 1."))) ∷
    (call op.DeleteAt (array (num 1 ∷ []) ∷ num 1 ∷ []), Err (non_existence (codes "Index out of bounds: 1."))) ∷
    (call op.DeleteAt (array (num 1 ∷ []) ∷ num 0 ∷ num 2 ∷ []), Err (non_existence (codes "Index out of bounds: 2."))) ∷
    (call op.ChangeAt (array [] ∷ num 0 ∷ num 1 ∷ []), Err (non_existence (codes "Index out of bounds: 0."))) ∷
    (call op.SpliceAt (array [] ∷ literal (minus 2) ∷ array [] ∷ []), Err (non_existence (codes "Index out of bounds: -2."))) ∷
    (call op.Reduce (array [] ∷ fun_of_two (num 1) ∷ []), Err (non_existence (codes "Cannot aggregate an empty sequence."))) ∷
    (call op.Avg (array [] ∷ []), Err (non_existence (codes "Cannot aggregate an empty sequence."))) ∷
    (call op.Min (array [] ∷ []), Err (non_existence (codes "Cannot aggregate an empty sequence."))) ∷
    (call op.Max (literal (a (o [] ∷ [])) ∷ name "a" ∷ []), Err (non_existence (codes "Cannot aggregate an empty sequence."))) ∷
    (call op.Zip (literal (a (o ((codes "right", n 1) ∷ []) ∷ [])) ∷ []), Err (non_existence (codes "No attribute `left` in object."))) ∷
    (call op.Map (literal (a (o [] ∷ [])) ∷ fun (field "a") ∷ []), Err (non_existence (codes "No attribute `a` in object."))) ∷
    (call op.Pluck (literal null ∷ name "a" ∷ []), Err (non_existence (codes "Expected type OBJECT but found NULL."))) ∷
    -- indexes
    (with op.GetAll (slot 0 ∷ num 1 ∷ []) ((codes "index", name "zz") ∷ []), Err (op_failed (codes "Index `zz` does not exist."))) ∷
    (with op.Between (slot 0 ∷ num 1 ∷ num 2 ∷ []) ((codes "index", name "zz") ∷ []), Err (op_failed (codes "Index `zz` does not exist."))) ∷
    (with op.EqJoin (array [] ∷ name "a" ∷ slot 0 ∷ []) ((codes "index", name "zz") ∷ []), Err (op_failed (codes "Index `zz` does not exist."))) ∷
    (call op.IndexStatus (slot 0 ∷ name "zz" ∷ []), Err (op_failed (codes "Index `zz` does not exist."))) ∷
    (call op.IndexStatus (slot 0 ∷ name "id" ∷ []), Err (op_failed (codes "Index `id` does not exist."))) ∷
    (with op.OrderBy (slot 0 ∷ []) ((codes "index", name "zz") ∷ []), Err (op_failed (codes "Index `zz` does not exist."))) ∷
    -- range
    (call op.Range (num 1000001 ∷ []), Err (resource_limit (codes "Range over size limit `1000000`."))) ∷
    (call op.Range (literal (minus 1) ∷ num 1000000 ∷ []), Err (resource_limit (codes "Range over size limit `1000000`."))) ∷
    []

abbrev pub limited : List Case
limited =
    (array (num 1 ∷ num 2 ∷ num 3 ∷ []), Err (resource_limit (codes "Array over size limit `2`."))) ∷
    (call op.Append (array (num 1 ∷ num 2 ∷ []) ∷ num 3 ∷ []), Err (resource_limit (codes "Array over size limit `2`."))) ∷
    (call op.CoerceTo (slot 0 ∷ name "array" ∷ []), Err (resource_limit (codes "Array over size limit `2`."))) ∷
    (call op.Map (array (num 1 ∷ []) ∷ fun (call op.CoerceTo (slot 0 ∷ name "array" ∷ [])) ∷ []), Err (resource_limit (codes "Array over size limit `2`."))) ∷
    (call op.OrderBy (slot 0 ∷ name "n" ∷ []), Err (resource_limit (codes "Array over size limit `2`."))) ∷
    (call op.Group (slot 0 ∷ name "zz" ∷ []), Err (resource_limit (codes "Array over size limit `2`."))) ∷
    (call op.ConcatMap (array (num 1 ∷ num 2 ∷ []) ∷ fun (array (num 1 ∷ num 1 ∷ [])) ∷ []), Err (resource_limit (codes "Array over size limit `2`."))) ∷
    (call op.Map (slot 0 ∷ fun (num 1) ∷ []), Ok (stream (n 1 ∷ n 1 ∷ n 1 ∷ n 1 ∷ []))) ∷
    (call op.GetField (call op.Get (slot 0 ∷ num 1 ∷ []) ∷ name "tags" ∷ []), Err (resource_limit (codes "Array over size limit `2`."))) ∷
    (call op.Bracket (call op.Get (slot 0 ∷ num 1 ∷ []) ∷ name "tags" ∷ []), Err (resource_limit (codes "Array over size limit `2`."))) ∷
    (call op.Default (call op.GetField (members [] ∷ name "x" ∷ []) ∷ literal (a (n 1 ∷ n 2 ∷ n 3 ∷ [])) ∷ []), Err (resource_limit (codes "Array over size limit `2`."))) ∷
    (array (array (num 1 ∷ num 2 ∷ []) ∷ array (literal (a (n 1 ∷ n 2 ∷ n 3 ∷ [])) ∷ []) ∷ []), Ok (one (a (a (n 1 ∷ n 2 ∷ []) ∷ a (a (n 1 ∷ n 2 ∷ n 3 ∷ []) ∷ []) ∷ [])))) ∷
    []

-- what no plan gives: terms that are no values, tables and databases that are not there, unbound variables, wrong counts and options
abbrev pub unplanned : List Case
unplanned =
    (call op.Table (name "docs" ∷ []), Err (query_logic (codes "Misplaced term."))) ∷
    (call op.Insert (slot 0 ∷ members [] ∷ []), Err (query_logic (codes "Misplaced term."))) ∷
    (call op.Update (slot 0 ∷ members [] ∷ []), Err (query_logic (codes "Misplaced term."))) ∷
    (call op.Replace (slot 0 ∷ members [] ∷ []), Err (query_logic (codes "Misplaced term."))) ∷
    (call op.Delete (slot 0 ∷ []), Err (query_logic (codes "Misplaced term."))) ∷
    (call op.ForEach (slot 0 ∷ fun (call op.Delete (var ∷ [])) ∷ []), Err (query_logic (codes "Misplaced term."))) ∷
    (call op.DbCreate (name "d" ∷ []), Err (query_logic (codes "Misplaced term."))) ∷
    (call op.DbDrop (name "d" ∷ []), Err (query_logic (codes "Misplaced term."))) ∷
    (call op.DbList [], Err (query_logic (codes "Misplaced term."))) ∷
    (call op.TableCreate (name "x" ∷ []), Err (query_logic (codes "Misplaced term."))) ∷
    (call op.TableDrop (name "x" ∷ []), Err (query_logic (codes "Misplaced term."))) ∷
    (call op.TableList [], Err (query_logic (codes "Misplaced term."))) ∷
    (call op.IndexCreate (slot 0 ∷ name "i" ∷ []), Err (query_logic (codes "Misplaced term."))) ∷
    (call op.IndexDrop (slot 0 ∷ name "i" ∷ []), Err (query_logic (codes "Misplaced term."))) ∷
    (call op.IndexRename (slot 0 ∷ name "i" ∷ name "j" ∷ []), Err (query_logic (codes "Misplaced term."))) ∷
    (call op.Sync (slot 0 ∷ []), Err (query_logic (codes "Misplaced term."))) ∷
    (call op.Changes (slot 0 ∷ []), Err (query_logic (codes "Misplaced term."))) ∷
    (call op.Now [], Err (query_logic (codes "Misplaced term."))) ∷
    (call op.Db (num 5 ∷ []), Err (query_logic (codes "Misplaced term."))) ∷
    (call op.Info (call op.Db (name "gone" ∷ []) ∷ []), Err (query_logic (codes "Misplaced term."))) ∷
    (slot 7, Err (query_logic (codes "Misplaced term."))) ∷
    (variable 5, Err (query_logic (codes "Misplaced term."))) ∷
    (implicit, Err (query_logic (codes "Misplaced term."))) ∷
    (call op.Not [], Err (query_logic (codes "Misplaced term."))) ∷
    (call op.Not (num 1 ∷ num 2 ∷ []), Err (query_logic (codes "Misplaced term."))) ∷
    (call op.Branch (num 1 ∷ num 2 ∷ []), Err (query_logic (codes "Misplaced term."))) ∷
    (call op.Object (name "a" ∷ []), Err (query_logic (codes "Misplaced term."))) ∷
    (with op.Add (num 1 ∷ []) ((codes "extra", num 2) ∷ []), Err (query_logic (codes "Misplaced term."))) ∷
    []
