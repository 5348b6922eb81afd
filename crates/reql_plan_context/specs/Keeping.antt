-- Where an operator keeps its place among the arguments that are settled.
use Rattle.std.specs.Prelude.{Bool, Ok}
use Rattle.reql_datum.specs.Answer.{Answer, ◌>>=◌}
use Rattle.reql_term.specs.Form.{Form, operation, Forms, NamedForms, forms_of}
use Rattle.reql_term.specs.declared.op.Op.{Op}
use Rattle.reql_value_spec.specs.World.{World}
use Rattle.reql_plan_spec.specs.Settled.{arguments, keeps_argument, keeps_option, nothing_kept}
use Rattle.reql_plan_context.specs.declared.keeping.Keeps.{Keeps}
use Rattle.reql_plan_context.specs.declared.keeping.Keeps.TheVariants as k

abbrev pub kept_by : Keeps → Op → Bool
kept_by (k.Argument by) = keeps_argument by
kept_by (k.Chosen by) = keeps_option by
kept_by k.Nothing = nothing_kept

-- an operator over the literals that its arguments give
abbrev pub over_literals : World → Op → Forms → NamedForms → Answer Form
over_literals w o fs ms = arguments nothing_kept w fs >>= λ gs. Ok (operation o (forms_of gs) ms)
