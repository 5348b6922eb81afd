-- What is shown of a request.
use Rattle.std.specs.Prelude.{map}
use Rattle.reql_datum.specs.Answer.{Answer, ◌>>=◌}
use Rattle.reql_datum.specs.View.{plain}
use Rattle.reql_term.specs.Form.{Form}
use Rattle.reql_operand.specs.Seen.{group}
use Rattle.reql_value_spec.specs.Shown as law
use Rattle.reql_value_spec.specs.World.{World}
use Rattle.reql_plan_spec.specs.Settled.{meant_of}
use Rattle.reql_plan_context.specs.declared.showing.Shown.{Shown}
use Rattle.reql_plan_context.specs.declared.showing.Shown.TheVariants as s

abbrev pub shown_as : Shown → law.Shown
shown_as (s.Atom d) = law.atom (plain d)
shown_as (s.Groups gs) = law.groups (map group gs.items)
shown_as (s.Sequence ds) = law.sequence ds

-- what a term gives, as it is shown
abbrev pub shown_term : World → Form → Answer law.Shown
shown_term w f = meant_of w f >>= λ m. law.shown w m
