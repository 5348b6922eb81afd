use Rattle.std.proofs.Common.{◌≡◌, ◌++◌, ◌-◌, drop, length, map}
use Rattle.reql_operand.specs.Seen.{group}
use Rattle.reql_apply_group.proofs.grouping.list_of.Given as goal

abbrev pub invariant-loop-group : goal.invariant-loop-group
invariant-loop-group l = map group l.list.items ++ drop l.place l.groups ≡ l.groups

abbrev pub decreases-loop-group : goal.decreases-loop-group
decreases-loop-group l = length l.groups - l.place
