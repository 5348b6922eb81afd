use Rattle.std.proofs.Common.{◌≡◌, ◌-◌, length, drop}
use Rattle.reql_rules.specs.Sets.{with_new, firsts}
use Rattle.reql_scalar.specs.Among.{Holds}
use Rattle.reql_scalar.proofs.sets.firsts.Given as goal

abbrev pub invariant-loop-item : goal.invariant-loop-item
invariant-loop-item l = record { rest : with_new l.came (drop l.place l.list) ≡ firsts l.list; holds : Holds l.seen l.came }

abbrev pub decreases-loop-item : goal.decreases-loop-item
decreases-loop-item l = length l.list - l.place
