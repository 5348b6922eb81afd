use Rattle.std.proofs.Common.{◌≡◌, ◌++◌, ◌-◌, drop, length, nat_lt, false}
use Rattle.reql_bodies.specs.Parts.{numbers_text, stamps_of}
use Rattle.reql_bodies.proofs.batches.write_stamps.Given as goal

abbrev pub invariant-loop-item : goal.invariant-loop-item
invariant-loop-item l = l.out.items ++ numbers_text (nat_lt 0 l.place) (stamps_of (drop l.place l.items)) ≡ l.initial.out.items ++ numbers_text false (stamps_of l.items)

abbrev pub decreases-loop-item : goal.decreases-loop-item
decreases-loop-item l = length l.items - l.place
