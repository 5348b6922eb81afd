use Rattle.std.proofs.Common.{◌≡◌, ◌-◌, ◌≤◌, ◌++◌, length, map, take, false}
use Rattle.reql_ptree.specs.Chunk.{pair}
use Rattle.reql_ptree.specs.Ends.{given}
use Rattle.reql_ptree.proofs.range.give_rising.Given as goal

abbrev pub invariant-loop-place : goal.invariant-loop-place
invariant-loop-place l = record {
  done : l.out ≡ l.initial.out ++ given false (map pair (take l.place l.part));
  room : length l.out ≤ l.most;
  within : l.place ≤ length l.part;
}

abbrev pub decreases-loop-place : goal.decreases-loop-place
decreases-loop-place l = length l.part - l.place
