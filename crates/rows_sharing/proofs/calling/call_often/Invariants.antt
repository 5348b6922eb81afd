use Rattle.std.proofs.Common.{◌≡◌}
use Rattle.rows_sharing.proofs.calling.call_often.Given as goal

abbrev pub invariant-loop-round : goal.invariant-loop-round
invariant-loop-round g l = (l.worker.first.object ≡ l.shared) × (l.worker.second.object ≡ l.shared)
