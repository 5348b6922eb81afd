-- What a client is told by a plan.
use Rattle.std.specs.Prelude.{◌++◌, codes}
use Rattle.reql_datum.specs.Answer.{Reason, query_logic, resource_limit, op_failed}
use Rattle.reql_rules.specs.Lists.{Bytes}

-- names
abbrev pub db_there : Bytes → Reason
db_there db = op_failed (codes "Database `" ++ (db ++ codes "` already exists."))

abbrev pub table_there : Bytes → Bytes → Reason
table_there db table = op_failed (codes "Table `" ++ (db ++ (codes "." ++ (table ++ codes "` already exists."))))

abbrev pub dropped_text : Bytes → Bytes → Bytes
dropped_text db table = codes "Table `" ++ (db ++ (codes "." ++ (table ++ codes "` was dropped.")))

abbrev pub index_there : Bytes → Reason
index_there name = op_failed (codes "Index `" ++ (name ++ codes "` already exists."))

abbrev pub key_name : Bytes → Reason
key_name name = query_logic (codes "Index name `" ++ (name ++ codes "` is the primary key."))

-- terms
abbrev pub undetermined : Reason
undetermined = query_logic (codes "Could not prove argument deterministic.")

abbrev pub no_selection : Reason
no_selection = query_logic (codes "Expected a selection.")

abbrev pub multi_feed : Reason
multi_feed = query_logic (codes "Limit feed over a multi index.")

-- devices
abbrev pub no_clock : Reason
no_clock = op_failed (codes "Clock failed.")

abbrev pub no_dice : Reason
no_dice = op_failed (codes "Random source failed.")

abbrev pub no_journal : Reason
no_journal = op_failed (codes "Journal failed.")

-- limits
abbrev pub too_many_cursors : Reason
too_many_cursors = resource_limit (codes "Too many cursors.")

abbrev pub too_many_feeds : Reason
too_many_feeds = resource_limit (codes "Too many feeds.")

abbrev pub too_many_tables : Reason
too_many_tables = resource_limit (codes "Too many tables.")

abbrev pub history_full : Reason
history_full = resource_limit (codes "History is full.")

abbrev pub over_limit : Reason
over_limit = resource_limit (codes "Limit over `100000`.")
