use Rattle.std.proofs.Common.{◌≡◌, ◌∷◌, ◌++◌, map, drop}
use Rattle.reql_datum.specs.View.{plain}
use Rattle.reql_rules.specs.Sorting.{once_after}
use Rattle.reql_seq.proofs.each_once.once_after.Given as goal

abbrev pub invariant-loop-item : goal.invariant-loop-item
invariant-loop-item l =
    plain l.first ∷ once_after (plain l.first) (map plain l.rest) ≡ l.items ++ once_after (plain l.last) (map plain (drop l.item-index l.rest))
