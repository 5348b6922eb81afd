use Rattle.std.proofs.Common.{◌≡◌, ◌++◌, ◌-◌, drop, length}
use Rattle.reql_feed_spec.specs.Fold.{without_nulls}
use Rattle.reql_tally.proofs.values.without_nulls.Given as goal

abbrev pub invariant-loop-value : goal.invariant-loop-value
invariant-loop-value l = l.rest ++ without_nulls (drop l.place l.values) ≡ without_nulls l.values

abbrev pub decreases-loop-value : goal.decreases-loop-value
decreases-loop-value l = length l.values - l.place
