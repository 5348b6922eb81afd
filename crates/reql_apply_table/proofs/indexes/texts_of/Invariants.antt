use Rattle.std.proofs.Common.{◌≡◌, ◌++◌, drop, Ok}
use Rattle.reql_datum.specs.Answer.{◌>>=◌}
use Rattle.reql_rules.specs.Lists.{each}
use Rattle.reql_value_spec.specs.Wanted.{as_text}
use Rattle.reql_value_spec.specs.World.{World}
use Rattle.reql_operand.specs.Seen.{all_shown}
use Rattle.reql_apply_table.proofs.indexes.texts_of.Given as goal

abbrev pub invariant-loop-arg : goal.invariant-loop-arg
invariant-loop-arg l = (w : World) → each as_text (all_shown w l.args) ≡ (each as_text (all_shown w (drop l.arg-index l.args)) >>= λ ns. Ok (l.names.items ++ ns))
