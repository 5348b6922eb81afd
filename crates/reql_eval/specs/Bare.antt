-- What a term gives as a function outside of any request, as a document.
use Rattle.std.specs.Prelude.{List}
use Rattle.reql_datum.specs.Answer.{Answer, ◌>>=◌}
use Rattle.reql_datum.specs.Plain.{Plain}
use Rattle.reql_term.specs.Form.{Form}
use Rattle.reql_value_spec.specs.Meaning.{function_value}
use Rattle.reql_value_spec.specs.Wanted.{to_datum}
use Rattle.reql_value_spec.specs.World.{bare_world}

abbrev pub function_datum : Form → List Plain → Answer Plain
function_datum f ds = function_value f bare_world ds >>= to_datum
