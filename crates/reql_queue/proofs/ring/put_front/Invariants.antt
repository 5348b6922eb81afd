use Rattle.std.proofs.Common.{◌≡◌, ◌≤◌, ◌+◌, ◌++◌, length}
use Rattle.reql_queue.proofs.ring.put_front.Given as goal

abbrev pub invariant-loop-item : goal.invariant-loop-item
invariant-loop-item g l = record {
  items : l.items.items ++ l.ring.items ≡ l.initial.items.items ++ l.initial.ring.items;
  capacity : l.ring.capacity ≡ l.initial.ring.capacity;
  fits : length l.items.items + length l.ring.items ≤ l.ring.capacity;
}

abbrev pub decreases-loop-item : goal.decreases-loop-item
decreases-loop-item g l = goal.left-loop-item g l
