use Rattle.std.proofs.Common.{◌≡◌, ◌≤◌, ◌++◌, length, map, drop, true}
use Rattle.reql_ptree.specs.Chunk.{pair}
use Rattle.reql_ptree.specs.Ends.{given}
use Rattle.reql_ptree.proofs.range.give_falling.Given as goal

abbrev pub invariant-loop-place : goal.invariant-loop-place
invariant-loop-place l = record {
  done : l.out ≡ l.initial.out ++ given true (map pair (drop l.place l.part));
  room : length l.out ≤ l.most;
  within : l.place ≤ length l.part;
}

abbrev pub decreases-loop-place : goal.decreases-loop-place
decreases-loop-place l = l.place
