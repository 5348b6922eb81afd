use Rattle.std.proofs.Common.{◌≡◌, ◌++◌, take, drop, map, Ok}
use Rattle.reql_datum.specs.Answer.{◌>>=◌}
use Rattle.reql_rules.specs.Lists.{each}
use Rattle.reql_value_spec.specs.Sequenced.{sized_group}
use Rattle.reql_operand.specs.Seen.{group}
use Rattle.reql_operand.proofs.limits.all_short.Given as goal

abbrev pub invariant-loop-g : goal.invariant-loop-g
invariant-loop-g l = each (sized_group l.limit) (map group l.groups) ≡ (each (sized_group l.limit) (map group (drop l.g-index l.groups)) >>= λ es. Ok (map group (take l.g-index l.groups) ++ es))
