use Rattle.std.proofs.Common.{◌≡◌, drop, map}
use Rattle.reql_datum.specs.View.{plain}
use Rattle.reql_value_spec.specs.Fields.{merged_on}
use Rattle.reql_value_spec.specs.Meant.{Calls}
use Rattle.reql_value_spec.specs.World.{World}
use Rattle.reql_operand.specs.Called.{Answers}
use Rattle.reql_operand.specs.Seen.{shown, all_shown}
use Rattle.reql_apply_path.proofs.merging.merged_on.Given as goal

abbrev pub invariant-loop-arg : goal.invariant-loop-arg
invariant-loop-arg g l = (w : World) (calls : Calls) → Answers w g.F.Fn l.call calls → merged_on calls (plain l.d) (all_shown w l.args) ≡ merged_on calls (plain l.so_far) (map (shown w) (drop l.arg-index l.args))
