use Rattle.std.proofs.Common.{◌≡◌, ◌++◌, ◌-◌, drop, length}
use Rattle.reql_table.specs.Inside.{inside}
use Rattle.reql_table.proofs.view.add_all.Given as goal

abbrev pub decreases-loop-document : goal.decreases-loop-document
decreases-loop-document l = length (inside l.slice) - l.place

abbrev pub invariant-loop-document : goal.invariant-loop-document
invariant-loop-document l = l.all ++ drop l.place (inside l.slice) ≡ l.initial.all ++ inside l.slice
