-- What stands where a walk changed nothing.
use Rattle.std.specs.Prelude.{Option, Some, None}
use Rattle.reql_term.specs.Form.{Form}
use Rattle.reql_term.specs.View.{form_of}
use Rattle.reql_term.specs.declared.term.Term.{Term}

-- the other term, or the form as it was
abbrev pub form_or : Form → Option Term → Form
form_or f None = f
form_or f (Some t) = form_of t
