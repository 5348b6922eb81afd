use Rattle.std.proofs.Common.{◌≡◌, ◌≤◌, map, replicate}
use Rattle.reql_table_spec.specs.Machine.{unused}
use Rattle.reql_core.specs.Core.{state_of}
use Rattle.reql_run.proofs.opening.engines.Given as goal

abbrev pub invariant-loop : goal.invariant-loop
invariant-loop g l = (map (state_of g.F.Following.held) l.all.items ≡ replicate l.counter (unused l.limits.feeds l.limits.tail)) × (2 ≤ l.limits.tail)
