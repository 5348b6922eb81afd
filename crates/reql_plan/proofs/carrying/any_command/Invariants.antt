use Rattle.std.proofs.Common.{◌≡◌, ◌-◌, drop, length}
use Rattle.reql_term.specs.Form.{forms_of}
use Rattle.reql_plan_spec.specs.Course.{any_command}
use Rattle.reql_plan.proofs.carrying.any_command.Given as goal

abbrev pub invariant-loop-term : goal.invariant-loop-term
invariant-loop-term l = any_command (forms_of (drop l.place l.args)) ≡ any_command (forms_of l.args)

abbrev pub decreases-loop-term : goal.decreases-loop-term
decreases-loop-term l = length l.args - l.place
