use Rattle.std.proofs.Common.{Ok, Err, codes}
use Rattle.reql_value_spec.specs.Meant.{callable}
use Rattle.reql_value_spec.specs.Shown.{atom}
use Rattle.reql_value_spec.specs.Wanted.{wrong}
use Rattle.reql_value_spec.specs.World.{bare_world}
use Rattle.reql_operand.proofs.Steps.{fails_on}
use Rattle.reql_plan_context.proofs.showing.no_document.Goals as goal

pub returns : goal.returns
returns c = fails_on c.in-Err.fault (Err (wrong (codes "DATUM") callable)) (λ d. Ok (atom d)) (c.in-Err.ensures.which bare_world)
