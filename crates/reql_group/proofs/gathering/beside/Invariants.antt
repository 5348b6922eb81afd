use Rattle.std.proofs.Common.{◌≡◌, ◌++◌, ◌-◌, drop, map, length}
use Rattle.std.specs.List.{zip}
use Rattle.reql_group.specs.Seen.{pair_seen}
use Rattle.reql_group.proofs.gathering.beside.Given as goal

abbrev pub invariant-loop-group : goal.invariant-loop-group
invariant-loop-group l = map pair_seen l.pairs.items ++ zip (drop l.place l.groups) (drop l.place l.members) ≡ zip l.groups l.members

abbrev pub decreases-loop-group : goal.decreases-loop-group
decreases-loop-group l = length l.groups - l.place
