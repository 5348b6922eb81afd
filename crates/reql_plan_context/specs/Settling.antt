-- An operator over arguments that are settled.
use Rattle.std.specs.Prelude.{List, Ok}
use Rattle.reql_datum.specs.Answer.{Answer, ◌>>=◌}
use Rattle.reql_term.specs.Form.{Form, operation, NamedForms, forms_of, named_of}
use Rattle.reql_term.specs.Table.{way_of}
use Rattle.reql_term.specs.declared.op.Op.{Op}
use Rattle.reql_value_spec.specs.World.{World}
use Rattle.reql_plan_spec.specs.Settled.{Test, named_arguments, keeps_option}

-- with its optional ones settled, and then tested
abbrev pub tested : Test → World → Op → List Form → NamedForms → Answer Form
tested test w o gs ms = named_arguments (keeps_option (way_of o)) w ms >>= λ ns. test o gs ns >>= λ _. Ok (operation o (forms_of gs) (named_of ns))
