use Rattle.std.proofs.Common.{◌≡◌}
use Rattle.reql_session.proofs.changes.tell_changes.Given as goal

abbrev pub invariant-loop-point : goal.invariant-loop-point
invariant-loop-point g l = g.L.Link.tape l.link ≡ g.L.Link.tape l.initial.link
