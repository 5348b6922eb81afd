use Rattle.std.proofs.Common.{◌≡◌, ◌++◌, ◌-◌, map, length, drop}
use Rattle.reql_datum.specs.View.{plain}
use Rattle.reql_open_feed.proofs.listed.listed.Given as goal

abbrev pub invariant-loop-item : goal.invariant-loop-item
invariant-loop-item l = map plain l.list ++ drop l.place l.items ≡ l.items

abbrev pub decreases-loop-item : goal.decreases-loop-item
decreases-loop-item l = length l.items - l.place
