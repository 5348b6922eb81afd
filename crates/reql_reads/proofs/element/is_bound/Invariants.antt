use Rattle.std.proofs.Common.{◌≡◌, drop}
use Rattle.reql_faults.specs.Faults.{is_bound}
use Rattle.reql_reads.proofs.element.is_bound.Given as goal

abbrev pub invariant-loop-known : goal.invariant-loop-known
invariant-loop-known l = is_bound l.id l.ids ≡ is_bound l.id (drop l.known-index l.ids)
