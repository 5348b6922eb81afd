-- What the code tells of a table, with the names of its indexes; and the database of a text.
use Rattle.std.specs.Prelude.{List, Option, Some, None, Ok, Err}
use Rattle.reql_datum.specs.Answer.{Answer}
use Rattle.reql_rules.specs.Admin as admin
use Rattle.reql_rules.specs.Faults.{misplaced}
use Rattle.reql_rules.specs.Lists.{Bytes}
use Rattle.reql_value_spec.specs.Meant.{Meant, database}
use Rattle.reql_apply_table.specs.declared.admin.About.{About}

abbrev pub about : About → List Bytes → admin.About
about t names = record { slot = t.slot; db = t.db; db_number = t.db_number; name = t.name; key = t.key; indexes = names }

abbrev pub by_text : Option Bytes → Answer Meant
by_text None = Err misplaced
by_text (Some name) = Ok (database name)
