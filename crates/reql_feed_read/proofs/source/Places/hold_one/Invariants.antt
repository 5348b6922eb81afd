use Rattle.std.proofs.Common.{◌≡◌, ◌-◌, drop, length}
use Rattle.std.specs.List.{list_any}
use Rattle.reql_feed_read.specs.Seen.{places_of}
use Rattle.reql_feed_read.specs.Source.{holds}
use Rattle.reql_feed_read.proofs.source.Places.hold_one.Given as goal

abbrev pub decreases-loop-value : goal.decreases-loop-value
decreases-loop-value l = length l.values - l.place

abbrev pub invariant-loop-value : goal.invariant-loop-value
invariant-loop-value l = list_any (holds (places_of l.self)) (drop l.place l.values) ≡ list_any (holds (places_of l.self)) l.values
