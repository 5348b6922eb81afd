-- What a client is told of the names of databases and tables.
use Rattle.std.specs.Prelude.{ℕ, List, ◌++◌, codes}
use Rattle.reql_datum.specs.Answer.{Reason, query_logic, op_failed}

abbrev pub bad_name : Reason
bad_name = query_logic (codes "Bad name.")

abbrev pub no_db_text : List ℕ → List ℕ
no_db_text db = codes "Database `" ++ (db ++ codes "` does not exist.")

abbrev pub no_db : List ℕ → Reason
no_db db = op_failed (no_db_text db)

abbrev pub no_table_text : List ℕ → List ℕ → List ℕ
no_table_text db table = codes "Table `" ++ (db ++ (codes "." ++ (table ++ codes "` does not exist.")))

abbrev pub no_table : List ℕ → List ℕ → Reason
no_table db table = op_failed (no_table_text db table)
