use Rattle.std.proofs.Common.{◌≡◌, ◌++◌, drop, map, Ok}
use Rattle.reql_datum.specs.Answer.{Answer, ◌>>=◌}
use Rattle.reql_rules.specs.Lists.{each}
use Rattle.reql_value_spec.specs.Meant.{Meant}
use Rattle.reql_value_spec.specs.Sequenced.{on_group}
use Rattle.reql_value_spec.specs.World.{World as Seen}
use Rattle.reql_operand.specs.Seen.{group}
use Rattle.reql_argument_order.specs.Called.{MeansValue}
use Rattle.reql_argument_order.proofs.groups.on_each.Given as goal

abbrev pub invariant-loop-g : goal.invariant-loop-g
invariant-loop-g g l =
    (w : Seen) (m : Meant → Answer Meant) → MeansValue w g.F.Fn l.f m
    → each (on_group m) (map group l.groups) ≡ (each (on_group m) (map group (drop l.g-index l.groups)) >>= λ hs. Ok (map group l.found.items ++ hs))
