use Rattle.std.proofs.Common.{◌≡◌, drop, map}
use Rattle.reql_tally.specs.Past.{latest}
use Rattle.reql_tally.specs.Views.{stamped}
use Rattle.reql_tally.proofs.sent.latest.Given as goal

abbrev pub invariant-loop-item : goal.invariant-loop-item
invariant-loop-item l = latest l.last (map stamped (drop l.item-index l.items)) ≡ latest l.stamp (map stamped l.items)
