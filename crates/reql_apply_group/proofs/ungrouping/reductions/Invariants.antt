use Rattle.std.proofs.Common.{◌≡◌, ◌++◌, drop, map}
use Rattle.reql_rules.specs.Grouping.{ungroup}
use Rattle.reql_operand.specs.Seen.{group}
use Rattle.reql_apply_group.proofs.ungrouping.reductions.Given as goal

abbrev pub invariant-loop-one : goal.invariant-loop-one
invariant-loop-one l = l.items ++ ungroup (map group (drop l.one-index l.groups)) ≡ ungroup (map group l.groups)
