use Rattle.std.proofs.Common.{◌≡◌, All}
use Rattle.rows_sharing.proofs.calling.check_all.Given as goal

abbrev pub invariant-loop-k : goal.invariant-loop-k
invariant-loop-k l = (l.last ≡ l.fn.last) × All (λ w. (w.first.object ≡ l.fn.last.object) × (w.second.object ≡ l.fn.last.object)) l.workers
