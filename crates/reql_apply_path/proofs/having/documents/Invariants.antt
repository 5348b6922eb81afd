use Rattle.std.proofs.Common.{◌≡◌, ◌++◌, drop, map, true, Ok}
use Rattle.reql_datum.specs.Answer.{◌>>=◌}
use Rattle.reql_datum.specs.Plain.{items_of}
use Rattle.reql_rules.specs.Patterns.{are_patterns}
use Rattle.reql_value_spec.specs.Fields.{patterns}
use Rattle.reql_value_spec.specs.World.{World}
use Rattle.reql_operand.specs.Seen.{shown, all_shown}
use Rattle.reql_apply_path.proofs.having.documents.Given as goal

abbrev pub invariant-loop-arg : goal.invariant-loop-arg
invariant-loop-arg l = record {
  rest : (w : World) → patterns (all_shown w l.args) ≡ (patterns (map (shown w) (drop l.arg-index l.args)) >>= λ ds. Ok (l.items ++ ds));
  good : are_patterns (items_of l.items) ≡ true;
}
