use Rattle.std.proofs.Common.{◌≡◌}
use Rattle.reql_session.proofs.changes.await_changes.Given as goal

abbrev pub invariant-loop-arm : goal.invariant-loop-arm
invariant-loop-arm g l = g.L.Link.tape l.link ≡ g.L.Link.tape l.initial.link
