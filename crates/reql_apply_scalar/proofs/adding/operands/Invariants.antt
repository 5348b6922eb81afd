use Rattle.std.proofs.Common.{◌≡◌, ◌++◌, drop, map, Ok}
use Rattle.reql_datum.specs.Answer.{◌>>=◌}
use Rattle.reql_value_spec.specs.World.{World}
use Rattle.reql_operand.specs.Seen.{shown, all_shown}
use Rattle.reql_apply_scalar.specs.Operands.{operands}
use Rattle.reql_apply_scalar.proofs.adding.operands.Given as goal

abbrev pub invariant-loop-arg : goal.invariant-loop-arg
invariant-loop-arg l = (w : World) → operands l.fn.want (all_shown w l.args) ≡ (operands l.next (map (shown w) (drop l.arg-index l.args)) >>= λ ds. Ok (l.items ++ ds))
