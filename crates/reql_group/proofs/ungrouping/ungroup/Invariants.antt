use Rattle.std.proofs.Common.{◌≡◌, ◌++◌, ◌-◌, length, drop}
use Rattle.reql_rules.specs.Grouping.{ungroup}
use Rattle.reql_group.proofs.ungrouping.ungroup.Given as goal

abbrev pub invariant-loop-group : goal.invariant-loop-group
invariant-loop-group l = l.items ++ ungroup (drop l.place l.groups) ≡ ungroup l.groups

abbrev pub decreases-loop-group : goal.decreases-loop-group
decreases-loop-group l = length l.groups - l.place
