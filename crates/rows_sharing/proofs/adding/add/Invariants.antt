use Rattle.std.proofs.Common.{◌≡◌}
use Rattle.rows_sharing.proofs.adding.add.Given as goal

abbrev pub invariant-loop : goal.invariant-loop
invariant-loop g l = l.pass.object ≡ l.fn.pass.object
