use Rattle.std.proofs.Common.{◌≡◌, [], ◌-◌, length, drop}
use Rattle.reql_scalar.specs.Two.{put_pairs}
use Rattle.reql_scalar.proofs.coercing.object_of.Given as goal

abbrev pub invariant-loop-item : goal.invariant-loop-item
invariant-loop-item l = put_pairs l.kind [] l.items ≡ put_pairs l.kind l.object (drop l.place l.items)

abbrev pub decreases-loop-item : goal.decreases-loop-item
decreases-loop-item l = length l.items - l.place
