use Rattle.std.proofs.Common.{◌≡◌, ◌≤◌, ◌-◌, ◌++◌, length, vec_capacity}
use Rattle.reql_queue.proofs.ring.take_front.Given as goal

abbrev pub invariant-loop-ring : goal.invariant-loop-ring
invariant-loop-ring g l = record {
  items : l.taken.items ++ l.ring.items ≡ l.initial.ring.items;
  capacity : l.ring.capacity ≡ l.initial.ring.capacity;
  count : length l.taken.items ≤ l.count;
  enough : l.count ≤ length l.initial.ring.items;
  room : vec_capacity l.taken ≡ l.count;
}

abbrev pub decreases-loop-ring : goal.decreases-loop-ring
decreases-loop-ring g l = l.count - length l.taken.items
