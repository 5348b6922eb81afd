use Rattle.std.proofs.Common.{◌≡◌, ◌+◌, ◌≤◌, length, slice_get}
use Rattle.reql_ptree.proofs.rank.place_in.Given as goal

abbrev pub invariant-loop-node : goal.invariant-loop-node
invariant-loop-node g l = record {
  there : slice_get l.rest.0 l.ahead ≡ slice_get l.side.0 l.place;
  low : l.rest.1 ≤ l.side.1;
  counted : l.steps + l.rest.1 ≤ l.initial.steps + l.side.1;
}

abbrev pub decreases-loop-node : goal.decreases-loop-node
decreases-loop-node g l = length l.rest.0
