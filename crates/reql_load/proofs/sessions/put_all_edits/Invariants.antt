use Rattle.std.proofs.Common.{◌≡◌, drop, flat_map}
use Rattle.reql_load.specs.Script.{edits}
use Rattle.reql_load.specs.Writing.{with_all}
use Rattle.reql_load.proofs.sessions.put_all_edits.Given as goal

abbrev pub invariant-loop-i : goal.invariant-loop-i
invariant-loop-i l = with_all l.writer (flat_map edits (drop l.i-index l.docs)) ≡ with_all l.fn.writer (flat_map edits l.docs)
