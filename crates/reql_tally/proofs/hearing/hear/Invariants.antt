use Rattle.std.proofs.Common.{◌≡◌, ◌++◌, ◌-◌, drop, length, map}
use Rattle.reql_table_spec.specs.Engines.{kept_of}
use Rattle.reql_table_spec.specs.Machine.{unused}
use Rattle.reql_tally.specs.Past.{batches_taken}
use Rattle.reql_tally.specs.Views.{given, made}
use Rattle.reql_tally.proofs.hearing.hear.Given as goal

abbrev pub invariant-loop-entry : goal.invariant-loop-entry
invariant-loop-entry g l =
    (made (unused l.limits.feeds l.limits.tail) (l.older ++ l.newer) ≡ map kept_of l.heard.changes.items ++ made l.replica (drop l.place (l.older ++ l.newer)))
    × (batches_taken (unused l.limits.feeds l.limits.tail) (l.older ++ l.newer) ≡ map given l.heard.batches.items ++ batches_taken l.replica (drop l.place (l.older ++ l.newer)))

abbrev pub decreases-loop-entry : goal.decreases-loop-entry
decreases-loop-entry g l = length (l.older ++ l.newer) - l.place
