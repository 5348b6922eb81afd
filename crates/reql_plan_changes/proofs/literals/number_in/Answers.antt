use Rattle.reql_value_spec.specs.World.{bare_world}
use Rattle.reql_plan_changes.proofs.literals.number_in.Goals as goal

pub returns : goal.returns
returns c = rw (c.in_ok-given.ensures bare_world) at (c.as_number-number.ensures bare_world)
