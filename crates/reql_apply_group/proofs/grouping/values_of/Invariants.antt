use Rattle.std.proofs.Common.{◌≡◌, ◌++◌, drop, Ok}
use Rattle.reql_datum.specs.Answer.{◌>>=◌}
use Rattle.reql_datum.specs.View.{plain}
use Rattle.reql_rules.specs.Lists.{each}
use Rattle.reql_value_spec.specs.Meant.{Calls}
use Rattle.reql_value_spec.specs.World.{World}
use Rattle.reql_operand.specs.Called.{Answers}
use Rattle.reql_operand.specs.Seen.{all_shown}
use Rattle.reql_apply_group.specs.Grouped.{key_or_null}
use Rattle.reql_apply_group.proofs.grouping.values_of.Given as goal

abbrev pub invariant-loop-key : goal.invariant-loop-key
invariant-loop-key g l =
    (w : World) (calls : Calls) → Answers w g.F.Fn l.call calls
    → each (key_or_null calls (plain l.d)) (all_shown w l.keys) ≡ (each (key_or_null calls (plain l.d)) (all_shown w (drop l.key-index l.keys)) >>= λ vs. Ok (l.values ++ vs))
