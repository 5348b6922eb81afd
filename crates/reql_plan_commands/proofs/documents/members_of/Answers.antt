use Rattle.reql_value_spec.specs.World.{bare_world}
use Rattle.reql_plan_commands.proofs.documents.members_of.Goals as goal

pub returns : goal.returns
returns c = rw c.in_ok-copy.ensures at (c.to_object-members.ensures bare_world)
