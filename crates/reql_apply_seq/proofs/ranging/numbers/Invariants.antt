use Rattle.std.proofs.Common.{◌≡◌, ◌++◌}
use Rattle.reql_rules.specs.Sizes.{numbers, distance}
use Rattle.reql_apply_seq.proofs.ranging.numbers.Given as goal

abbrev pub invariant-loop-to : goal.invariant-loop-to
invariant-loop-to l = numbers l.fn.from (distance l.fn.from l.to) ≡ l.items ++ numbers l.n (distance l.n l.to)

abbrev pub decreases-loop-to : goal.decreases-loop-to
decreases-loop-to l = distance l.n l.to
