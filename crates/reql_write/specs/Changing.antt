-- What an update and a replace make of a document, from what the change gives of it.
use Rattle.std.specs.Prelude.{Option, Some}
use Rattle.reql_datum.specs.Answer.{Answer, ◌>>=◌}
use Rattle.reql_datum.specs.Plain.{Plain}
use Rattle.reql_term.specs.Form.{Form}
use Rattle.reql_rules.specs.Lists.{Bytes}
use Rattle.reql_write_spec.specs.Treated.{Treated}
use Rattle.reql_write_spec.specs.Treating.{given_by, updated, replaced_by}

abbrev pub update_of : Bytes → Form → Plain → Plain → Answer Treated
update_of field change key old = given_by change (Some old) >>= updated field key old

abbrev pub replace_of : Bytes → Form → Plain → Option Plain → Answer Treated
replace_of field change key old = given_by change old >>= replaced_by field key old
