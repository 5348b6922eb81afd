use Rattle.std.proofs.Common.{◌≡◌, ◌≤◌, ◌-◌, length, drop}
use Rattle.reql_datum.specs.Members.{text_order}
use Rattle.reql_datum.proofs.name.text_order.Given as goal

abbrev pub invariant-loop-place : goal.invariant-loop-place
invariant-loop-place l = record {
  same : text_order (drop l.place l.a) (drop l.place l.b) ≡ text_order l.a l.b;
  in_a : l.place ≤ length l.a;
  in_b : l.place ≤ length l.b;
}

abbrev pub decreases-loop-place : goal.decreases-loop-place
decreases-loop-place l = 16 - l.place
