-- A write as one way to treat each of a list: of the documents that are inserted, or of the primary keys of rows.
use Rattle.std.specs.Prelude.{List, Ok}
use Rattle.reql_datum.specs.Answer.{Answer}
use Rattle.reql_datum.specs.Plain.{Plain}
use Rattle.reql_term.specs.Views.{Document, Index}
use Rattle.reql_rules.specs.Lists.{Bytes}
use Rattle.reql_write_spec.specs.Selecting.{selected}
use Rattle.reql_write_spec.specs.Treated.{Treated}
use Rattle.reql_write_spec.specs.Treating.{inserting, keyed, updating, replacing, without_doc, at_key}
use Rattle.reql_write_spec.specs.declared.command.Act.{Act}
use Rattle.reql_write_spec.specs.declared.command.Act.TheVariants as act

abbrev pub treating : Bytes → Act → List Document → Plain → Treated
treating field (act.Insert new conflict made) = inserting field conflict
treating field (act.Update rows change) = at_key (updating field change)
treating field (act.Replace rows change) = at_key (replacing field change)
treating field (act.Delete rows) = at_key without_doc

abbrev pub items_treated : Bytes → List Document → List (Bytes × Index) → Act → Answer (List Plain)
items_treated field docs indexes (act.Insert new conflict made) = Ok (keyed field made new)
items_treated field docs indexes (act.Update rows change) = selected field docs indexes rows
items_treated field docs indexes (act.Replace rows change) = selected field docs indexes rows
items_treated field docs indexes (act.Delete rows) = selected field docs indexes rows
