use Rattle.std.proofs.Common.{◌≡◌, ◌++◌, drop, map, Ok}
use Rattle.reql_datum.specs.Answer.{◌>>=◌}
use Rattle.reql_rules.specs.Lists.{each}
use Rattle.reql_value_spec.specs.Wanted.{as_datum}
use Rattle.reql_value_spec.specs.World.{World as Seen}
use Rattle.reql_operand.specs.Seen.{shown}
use Rattle.reql_operand.proofs.documents.as_data.Given as goal

abbrev pub invariant-loop-arg : goal.invariant-loop-arg
invariant-loop-arg l = (w : Seen) → each as_datum (map (shown w) l.args) ≡ (each as_datum (map (shown w) (drop l.arg-index l.args)) >>= λ ds. Ok (l.items ++ ds))
