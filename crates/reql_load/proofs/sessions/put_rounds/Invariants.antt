use Rattle.std.proofs.Common.{◌≡◌, length}
use Rattle.reql_load.specs.Script.{rounds}
use Rattle.reql_load.specs.Writing.{with_all}
use Rattle.reql_load.proofs.sessions.put_rounds.Given as goal

abbrev pub invariant-loop-rest : goal.invariant-loop-rest
invariant-loop-rest l = with_all l.writer (rounds l.seed l.rest) ≡ with_all l.fn.writer (rounds l.seed l.docs)

abbrev pub decreases-loop-rest : goal.decreases-loop-rest
decreases-loop-rest l = length l.rest
