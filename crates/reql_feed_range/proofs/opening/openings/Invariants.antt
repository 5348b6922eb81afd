use Rattle.std.proofs.Common.{◌≡◌, ◌++◌, ◌-◌, length, drop}
use Rattle.reql_feed_spec.specs.Feeds.{opened_from}
use Rattle.reql_feed_range.specs.Printed.{shows}
use Rattle.reql_feed_range.proofs.opening.openings.Given as goal

abbrev pub invariant-loop-value : goal.invariant-loop-value
invariant-loop-value l =
    l.items ++ opened_from (shows l.printer.offsets l.printer.types) l.place (drop l.place l.values) ≡ opened_from (shows l.printer.offsets l.printer.types) 0 l.values

abbrev pub decreases-loop-value : goal.decreases-loop-value
decreases-loop-value l = length l.values - l.place
