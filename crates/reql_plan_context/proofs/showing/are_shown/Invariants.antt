use Rattle.std.proofs.Common.{◌≡◌, drop, map}
use Rattle.reql_datum.specs.Kinds.{are_storable}
use Rattle.reql_datum.specs.Plain.{items_of}
use Rattle.reql_operand.specs.Seen.{group}
use Rattle.reql_value_spec.specs.Shown.{group_pair}
use Rattle.reql_plan_context.proofs.showing.are_shown.Given as goal

abbrev pub invariant-loop-one : goal.invariant-loop-one
invariant-loop-one l = are_storable (items_of (map group_pair (map group (drop l.one-index l.groups)))) ≡ are_storable (items_of (map group_pair (map group l.groups)))
