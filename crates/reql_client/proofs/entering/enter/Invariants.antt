use Rattle.std.proofs.Common.{◌+◌, ◌-◌, ◌≤◌}
use Rattle.reql_client.specs.Login.{Steps}
use Rattle.reql_client.specs.Program.{stage_of}
use Rattle.reql_client.proofs.Logged.{left}
use Rattle.reql_client.proofs.entering.enter.Given as goal

abbrev pub invariant-loop-bytes : goal.invariant-loop-bytes
invariant-loop-bytes g l = record {
  steps : Steps l.entrant.password.now l.entrant.nonce.now (g.L.Link.tape l.initial.link) l.calls (g.L.Link.tape l.link) (stage_of l.stage) l.held.items;
  within : l.calls ≤ l.turns;
}

abbrev pub decreases-loop-bytes : goal.decreases-loop-bytes
decreases-loop-bytes g l = (l.turns - l.calls) + left (stage_of l.stage)
