use Rattle.std.proofs.Common.{◌≡◌, [], length}
use Rattle.reql_value_spec.specs.World.{World}
use Rattle.reql_operand.specs.Seen.{all_shown}
use Rattle.reql_apply_path.specs.Pairs.{put_pairs}
use Rattle.reql_apply_path.proofs.members.put_pairs.Given as goal

abbrev pub invariant-loop-rest : goal.invariant-loop-rest
invariant-loop-rest l = (w : World) → put_pairs [] (all_shown w l.args) ≡ put_pairs l.object (all_shown w l.rest)

abbrev pub decreases-loop-rest : goal.decreases-loop-rest
decreases-loop-rest l = length l.rest
