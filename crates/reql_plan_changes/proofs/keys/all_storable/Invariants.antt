use Rattle.std.proofs.Common.{◌≡◌, ◌++◌, take, drop, map, Ok}
use Rattle.reql_datum.specs.Answer.{◌>>=◌}
use Rattle.reql_datum.specs.Kinds.{is_storable}
use Rattle.reql_datum.specs.View.{plain}
use Rattle.reql_rules.specs.Lists.{each}
use Rattle.reql_value_spec.specs.Tables.{key_if}
use Rattle.reql_plan_changes.proofs.keys.all_storable.Given as goal

abbrev pub invariant-loop-key : goal.invariant-loop-key
invariant-loop-key l = each (key_if is_storable) (map plain l.keys) ≡ (each (key_if is_storable) (map plain (drop l.key-index l.keys)) >>= λ es. Ok (map plain (take l.key-index l.keys) ++ es))
