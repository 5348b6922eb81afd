use Rattle.std.proofs.Common.{◌≡◌, ◌-◌, length, drop, Ok}
use Rattle.reql_scalar.specs.Steps.{step_of, all_on}
use Rattle.reql_scalar.proofs.numbers.run_from.Given as goal

abbrev pub invariant-loop-item : goal.invariant-loop-item
invariant-loop-item l = all_on (step_of l.op) (Ok l.fn.start) (drop l.from l.args) ≡ all_on (step_of l.op) l.so_far (drop l.place l.args)

abbrev pub decreases-loop-item : goal.decreases-loop-item
decreases-loop-item l = length l.args - l.place
