use Rattle.std.proofs.Common.{◌≡◌, ◌++◌, take, drop, map, Ok}
use Rattle.reql_datum.specs.Answer.{◌>>=◌}
use Rattle.reql_datum.specs.View.{plain}
use Rattle.reql_rules.specs.Lists.{each}
use Rattle.reql_rules.specs.Sizes.{shallow}
use Rattle.reql_operand.proofs.limits.all_shallow.Given as goal

abbrev pub invariant-loop-d : goal.invariant-loop-d
invariant-loop-d l = each shallow (map plain l.list) ≡ (each shallow (map plain (drop l.d-index l.list)) >>= λ es. Ok (map plain (take l.d-index l.list) ++ es))
