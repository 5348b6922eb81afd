-- Terms of tables, each with what it gives over the tables of Short.
use Rattle.std.specs.Prelude.{List, [], ◌∷◌, true, false, Some, None, Ok, codes}
use Rattle.reql_datum.specs.Plain.{boolean, null}
use Rattle.reql_term.specs.Form.{literal, slot}
use Rattle.reql_term.specs.declared.op.Op.TheVariants as op
use Rattle.reql_value_spec.specs.Meant.{one, selection, row, table, database, some_rows}
use Rattle.reql_value_spec.specs.Short.{Case, t, n, a, o, num, name, call, with}

abbrev pub tables : List Case
tables =
    (call op.Db (name "test" ∷ []), Ok (database (codes "test"))) ∷
    (slot 0, Ok (table 0)) ∷
    (call op.Get (slot 0 ∷ num 1 ∷ []), Ok (row 0 (n 1) (Some (o ((codes "g", t "x") ∷ (codes "id", n 1) ∷ (codes "n", n 5) ∷ (codes "tags", a (t "a" ∷ t "b" ∷ t "a" ∷ [])) ∷ []))))) ∷
    (call op.Get (slot 0 ∷ num 9 ∷ []), Ok (row 0 (n 9) None)) ∷
    (call op.GetAll (slot 0 ∷ num 2 ∷ num 1 ∷ num 2 ∷ []), Ok (selection 0 some_rows (o ((codes "g", t "y") ∷ (codes "id", n 2) ∷ (codes "n", n 3) ∷ []) ∷ o ((codes "g", t "x") ∷ (codes "id", n 1) ∷ (codes "n", n 5) ∷ (codes "tags", a (t "a" ∷ t "b" ∷ t "a" ∷ [])) ∷ []) ∷ o ((codes "g", t "y") ∷ (codes "id", n 2) ∷ (codes "n", n 3) ∷ []) ∷ []))) ∷
    (call op.GetAll (slot 0 ∷ []), Ok (selection 0 some_rows [])) ∷
    (with op.GetAll (slot 0 ∷ num 5 ∷ []) ((codes "index", name "n") ∷ []), Ok (selection 0 some_rows (o ((codes "g", t "x") ∷ (codes "id", n 1) ∷ (codes "n", n 5) ∷ (codes "tags", a (t "a" ∷ t "b" ∷ t "a" ∷ [])) ∷ []) ∷ o ((codes "g", t "x") ∷ (codes "id", n 3) ∷ (codes "n", n 5) ∷ (codes "o", o ((codes "p", n 1) ∷ (codes "q", a (n 1 ∷ n 2 ∷ [])) ∷ [])) ∷ (codes "tags", a (t "b" ∷ null ∷ n 7 ∷ [])) ∷ []) ∷ []))) ∷
    (with op.GetAll (slot 0 ∷ name "a" ∷ name "b" ∷ []) ((codes "index", name "tags") ∷ []), Ok (selection 0 some_rows (o ((codes "g", t "x") ∷ (codes "id", n 1) ∷ (codes "n", n 5) ∷ (codes "tags", a (t "a" ∷ t "b" ∷ t "a" ∷ [])) ∷ []) ∷ o ((codes "g", t "x") ∷ (codes "id", n 1) ∷ (codes "n", n 5) ∷ (codes "tags", a (t "a" ∷ t "b" ∷ t "a" ∷ [])) ∷ []) ∷ o ((codes "g", t "x") ∷ (codes "id", n 3) ∷ (codes "n", n 5) ∷ (codes "o", o ((codes "p", n 1) ∷ (codes "q", a (n 1 ∷ n 2 ∷ [])) ∷ [])) ∷ (codes "tags", a (t "b" ∷ null ∷ n 7 ∷ [])) ∷ []) ∷ []))) ∷
    (call op.GetAll (slot 0 ∷ literal null ∷ literal (o ((codes "a", n 1) ∷ [])) ∷ []), Ok (selection 0 some_rows [])) ∷
    (call op.CoerceTo (call op.Between (slot 0 ∷ num 1 ∷ num 3 ∷ []) ∷ name "array" ∷ []), Ok (one (a (o ((codes "g", t "x") ∷ (codes "id", n 1) ∷ (codes "n", n 5) ∷ (codes "tags", a (t "a" ∷ t "b" ∷ t "a" ∷ [])) ∷ []) ∷ o ((codes "g", t "y") ∷ (codes "id", n 2) ∷ (codes "n", n 3) ∷ []) ∷ [])))) ∷
    (call op.CoerceTo (with op.Between (slot 0 ∷ num 1 ∷ num 3 ∷ []) ((codes "left_bound", name "open") ∷ (codes "right_bound", name "closed") ∷ []) ∷ name "array" ∷ []), Ok (one (a (o ((codes "g", t "y") ∷ (codes "id", n 2) ∷ (codes "n", n 3) ∷ []) ∷ o ((codes "g", t "x") ∷ (codes "id", n 3) ∷ (codes "n", n 5) ∷ (codes "o", o ((codes "p", n 1) ∷ (codes "q", a (n 1 ∷ n 2 ∷ [])) ∷ [])) ∷ (codes "tags", a (t "b" ∷ null ∷ n 7 ∷ [])) ∷ []) ∷ [])))) ∷
    (call op.CoerceTo (with op.Between (slot 0 ∷ name "a" ∷ name "c" ∷ []) ((codes "index", name "tags") ∷ []) ∷ name "array" ∷ []), Ok (one (a (o ((codes "g", t "x") ∷ (codes "id", n 1) ∷ (codes "n", n 5) ∷ (codes "tags", a (t "a" ∷ t "b" ∷ t "a" ∷ [])) ∷ []) ∷ o ((codes "g", t "x") ∷ (codes "id", n 1) ∷ (codes "n", n 5) ∷ (codes "tags", a (t "a" ∷ t "b" ∷ t "a" ∷ [])) ∷ []) ∷ o ((codes "g", t "x") ∷ (codes "id", n 3) ∷ (codes "n", n 5) ∷ (codes "o", o ((codes "p", n 1) ∷ (codes "q", a (n 1 ∷ n 2 ∷ [])) ∷ [])) ∷ (codes "tags", a (t "b" ∷ null ∷ n 7 ∷ [])) ∷ []) ∷ [])))) ∷
    (call op.CoerceTo (with op.Between (slot 0 ∷ call op.Minval [] ∷ call op.Maxval [] ∷ []) ((codes "index", name "gn") ∷ []) ∷ name "array" ∷ []), Ok (one (a (o ((codes "g", t "x") ∷ (codes "id", n 1) ∷ (codes "n", n 5) ∷ (codes "tags", a (t "a" ∷ t "b" ∷ t "a" ∷ [])) ∷ []) ∷ o ((codes "g", t "x") ∷ (codes "id", n 3) ∷ (codes "n", n 5) ∷ (codes "o", o ((codes "p", n 1) ∷ (codes "q", a (n 1 ∷ n 2 ∷ [])) ∷ [])) ∷ (codes "tags", a (t "b" ∷ null ∷ n 7 ∷ [])) ∷ []) ∷ o ((codes "g", t "y") ∷ (codes "id", n 2) ∷ (codes "n", n 3) ∷ []) ∷ [])))) ∷
    (call op.IndexList (slot 0 ∷ []), Ok (one (a (t "gn" ∷ t "n" ∷ t "tags" ∷ [])))) ∷
    (call op.IndexList (slot 1 ∷ []), Ok (one (a []))) ∷
    (call op.IndexStatus (slot 0 ∷ []), Ok (one (a (o ((codes "geo", boolean false) ∷ (codes "index", t "gn") ∷ (codes "multi", boolean false) ∷ (codes "outdated", boolean false) ∷ (codes "ready", boolean true) ∷ []) ∷ o ((codes "geo", boolean false) ∷ (codes "index", t "n") ∷ (codes "multi", boolean false) ∷ (codes "outdated", boolean false) ∷ (codes "ready", boolean true) ∷ []) ∷ o ((codes "geo", boolean false) ∷ (codes "index", t "tags") ∷ (codes "multi", boolean true) ∷ (codes "outdated", boolean false) ∷ (codes "ready", boolean true) ∷ []) ∷ [])))) ∷
    (call op.IndexStatus (slot 0 ∷ name "tags" ∷ name "n" ∷ []), Ok (one (a (o ((codes "geo", boolean false) ∷ (codes "index", t "tags") ∷ (codes "multi", boolean true) ∷ (codes "outdated", boolean false) ∷ (codes "ready", boolean true) ∷ []) ∷ o ((codes "geo", boolean false) ∷ (codes "index", t "n") ∷ (codes "multi", boolean false) ∷ (codes "outdated", boolean false) ∷ (codes "ready", boolean true) ∷ []) ∷ [])))) ∷
    (call op.IndexWait (slot 0 ∷ name "gn" ∷ []), Ok (one (a (o ((codes "geo", boolean false) ∷ (codes "index", t "gn") ∷ (codes "multi", boolean false) ∷ (codes "outdated", boolean false) ∷ (codes "ready", boolean true) ∷ []) ∷ [])))) ∷
    (call op.Info (slot 0 ∷ []), Ok (one (o ((codes "db", o ((codes "id", t "00000000-0000-0001-0000-000000000000") ∷ (codes "name", t "test") ∷ (codes "type", t "DB") ∷ [])) ∷ (codes "doc_count_estimates", a (n 4 ∷ [])) ∷ (codes "id", t "00000000-0000-0000-0000-000000000000") ∷ (codes "indexes", a (t "gn" ∷ t "n" ∷ t "tags" ∷ [])) ∷ (codes "name", t "docs") ∷ (codes "primary_key", t "id") ∷ (codes "type", t "TABLE") ∷ [])))) ∷
    (call op.Info (call op.Db (name "test" ∷ []) ∷ []), Ok (one (o ((codes "id", t "00000000-0000-0001-0000-000000000000") ∷ (codes "name", t "test") ∷ (codes "type", t "DB") ∷ [])))) ∷
    (call op.Info (num 1 ∷ []), Ok (one (o ((codes "type", t "NUMBER") ∷ [])))) ∷
    (call op.Info (call op.Range (num 1 ∷ []) ∷ []), Ok (one (o ((codes "type", t "STREAM") ∷ [])))) ∷
    (call op.Config (slot 1 ∷ []), Ok (one (o ((codes "db", t "test") ∷ (codes "id", t "00000000-0000-0000-0000-000000000001") ∷ (codes "indexes", a []) ∷ (codes "name", t "more") ∷ (codes "primary_key", t "key") ∷ [])))) ∷
    (call op.Config (call op.Db (name "test" ∷ []) ∷ []), Ok (one (o ((codes "id", t "00000000-0000-0001-0000-000000000000") ∷ (codes "name", t "test") ∷ [])))) ∷
    (call op.Status (slot 1 ∷ []), Ok (one (o ((codes "db", t "test") ∷ (codes "id", t "00000000-0000-0000-0000-000000000001") ∷ (codes "name", t "more") ∷ (codes "status", o ((codes "all_replicas_ready", boolean true) ∷ (codes "ready_for_outdated_reads", boolean true) ∷ (codes "ready_for_reads", boolean true) ∷ (codes "ready_for_writes", boolean true) ∷ [])) ∷ [])))) ∷
    []
