use Rattle.std.proofs.Common.{◌+◌, ◌≤◌, length}
use Rattle.reql_datum.specs.View.{plain}
use Rattle.reql_ptree.specs.Way.{pairs_in, IsWay}
use Rattle.reql_ptree.proofs.around.way_to.Given as goal

abbrev pub invariant-loop-node : goal.invariant-loop-node
invariant-loop-node g l = record {
  way : IsWay (plain l.key) l.at l.side.0 (pairs_in l.below) l.rest.0 (pairs_in l.above) l.side.1 l.rest.1 l.passed;
  counted : l.steps + l.rest.1 ≤ l.initial.steps + l.side.1;
}

abbrev pub decreases-loop-node : goal.decreases-loop-node
decreases-loop-node g l = length l.rest.0
