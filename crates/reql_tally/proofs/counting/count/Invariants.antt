use Rattle.std.proofs.Common.{◌≤◌, ◌++◌, ◌-◌, drop, length}
use Rattle.reql_table_spec.specs.Machine.{unused}
use Rattle.reql_tally.specs.Past.{feeds_opened}
use Rattle.reql_tally.specs.Tallied.{FoldsUp}
use Rattle.reql_tally.specs.Views.{IsCounted, LeadsOn}
use Rattle.reql_tally.proofs.counting.count.Given as goal

abbrev pub invariant-loop-entry : goal.invariant-loop-entry
invariant-loop-entry g l =
    LeadsOn (unused l.limits.feeds l.limits.tail) (l.older ++ l.newer) l.replica (drop l.place (l.older ++ l.newer))
    × IsCounted (FoldsUp (unused l.limits.feeds l.limits.tail) (l.older ++ l.newer)) (feeds_opened (unused l.limits.feeds l.limits.tail) (l.older ++ l.newer)) (feeds_opened l.replica (drop l.place (l.older ++ l.newer))) l.count.feeds l.count.folds
    × (l.count.feeds ≤ l.place) × (l.count.folds ≤ l.count.feeds)

abbrev pub decreases-loop-entry : goal.decreases-loop-entry
decreases-loop-entry g l = length (l.older ++ l.newer) - l.place
