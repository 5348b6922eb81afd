use Rattle.std.proofs.Common.{◌≡◌, map, take}
use Rattle.reql_operand.specs.Seen.{group}
use Rattle.reql_value_spec.specs.Shown.{group_pair}
use Rattle.reql_planner.proofs.grouping.pairs.Given as goal

abbrev pub invariant-loop-one : goal.invariant-loop-one
invariant-loop-one l = l.list ≡ map group_pair (map group (take l.one-index l.groups))
