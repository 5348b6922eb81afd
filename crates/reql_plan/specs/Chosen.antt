-- The arm of a BRANCH that is carried out.
use Rattle.std.specs.Prelude.{Ok, Err, if◌then◌else◌}
use Rattle.reql_datum.specs.Answer.{Answer, ◌>>=◌}
use Rattle.reql_term.specs.Form.{Form, Forms, no_forms, form}
use Rattle.reql_rules.specs.Faults.{misplaced}
use Rattle.reql_rules.specs.Types.{truth}
use Rattle.reql_value_spec.specs.World.{World}
use Rattle.reql_plan_spec.specs.Settled.{datum_of}

abbrev pub chosen : World → Forms → Answer Form
chosen w no_forms = Err misplaced
chosen w (form f no_forms) = Ok f
chosen w (form f (form g fs)) = datum_of w f >>= λ d. if truth d then Ok g else chosen w fs
