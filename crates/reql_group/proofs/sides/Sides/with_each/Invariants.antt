use Rattle.std.proofs.Common.{◌≡◌, ◌++◌, drop, map}
use Rattle.reql_datum.specs.View.{plain}
use Rattle.reql_rules.specs.Joining.{of_both}
use Rattle.reql_group.proofs.sides.Sides.with_each.Given as goal

abbrev pub invariant-loop-right : goal.invariant-loop-right
invariant-loop-right l = l.initial.all ++ map (of_both (plain l.left)) (map plain l.rows) ≡ l.all ++ map (of_both (plain l.left)) (map plain (drop l.right-index l.rows))
