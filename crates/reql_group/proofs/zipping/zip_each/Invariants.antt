use Rattle.std.proofs.Common.{◌≡◌, ◌++◌, drop, map, Ok}
use Rattle.reql_datum.specs.Answer.{◌>>=◌}
use Rattle.reql_datum.specs.View.{plain}
use Rattle.reql_rules.specs.Joining.{zip_all}
use Rattle.reql_group.proofs.zipping.zip_each.Given as goal

abbrev pub invariant-loop-item : goal.invariant-loop-item
invariant-loop-item l = zip_all (map plain l.list) ≡ (zip_all (map plain (drop l.item-index l.list)) >>= λ vs. Ok (l.zipped ++ vs))
