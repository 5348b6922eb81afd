use Rattle.std.proofs.Common.{◌≡◌, ◌≤◌, length, All}
use Rattle.rows_sharing.proofs.calling.pair_up.Given as goal

abbrev pub invariant-loop : goal.invariant-loop
invariant-loop l = (length l.made.items ≡ l.counter) × (l.workers ≤ l.made.cap) × All (λ p. p.object ≡ l.shared) l.passes.items × All (λ w. (w.first.object ≡ l.shared) × (w.second.object ≡ l.shared)) l.made.items
