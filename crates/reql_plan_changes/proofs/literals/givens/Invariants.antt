use Rattle.std.proofs.Common.{◌≡◌, ◌++◌, ◌-◌, drop, length, map}
use Rattle.reql_operand.specs.Seen.{choice}
use Rattle.reql_value_spec.specs.World.{bare_world}
use Rattle.reql_plan_spec.specs.Feeding.{givens}
use Rattle.reql_plan_changes.proofs.literals.givens.Given as goal

abbrev pub decreases-loop-name : goal.decreases-loop-name
decreases-loop-name l = length l.fields - l.place

abbrev pub invariant-loop-name : goal.invariant-loop-name
invariant-loop-name l = givens l.fields ≡ map (choice bare_world) l.given.items ++ givens (drop l.place l.fields)
