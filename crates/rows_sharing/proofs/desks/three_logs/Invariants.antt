use Rattle.std.proofs.Common.{◌≡◌, ◌≤◌, [], length, All}
use Rattle.rows_sharing.proofs.desks.three_logs.Given as goal

abbrev pub invariant-loop : goal.invariant-loop
invariant-loop l = (length l.logs.items ≡ l.counter) × (3 ≤ l.logs.cap) × All (λ e. e.entries.items ≡ []) l.logs.items
