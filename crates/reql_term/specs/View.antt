-- The form of a term.
use Rattle.std.specs.Prelude.{ℕ, List}
use Rattle.reql_datum.specs.View.{plain}
use Rattle.reql_term.specs.Form.{Form, literal, several, keyed, variable, implicit, function, slot, operation, forms_of, named_of}
use Rattle.reql_term.specs.declared.term.Term.{Term}
use Rattle.reql_term.specs.declared.term.Term.TheVariants.{Lit, Arr, Obj, Var, Row, Func, Slot, Op}
use Rattle.reql_term.specs.declared.term.TermField.{TermField}

abbrev pub form_of : Term → Form
form_of (Lit d) = literal (plain d)
form_of (Arr ts) = several (forms_of ts)
form_of (Obj ms) = keyed (named_of ms)
form_of (Var n) = variable n
form_of Row = implicit
form_of (Func ids t) = function ids t
form_of (Slot n) = slot n
form_of (Op op ts ms) = operation op (forms_of ts) (named_of ms)

abbrev pub field_of : TermField → List ℕ × Form
field_of m = (m.name, form_of m.value)
