use Rattle.std.proofs.Common.{◌≡◌, ◌++◌, ◌-◌, length, drop, nat_lt, false}
use Rattle.serde_json.specs.Written.{items_text}
use Rattle.serde_json.specs.View.{items_of}
use Rattle.reql_bodies.specs.Parts.{items_shown}
use Rattle.reql_bodies.proofs.batches.write_list.Given as goal

abbrev pub invariant-loop-item : goal.invariant-loop-item
invariant-loop-item l = l.out.items ++ items_text (nat_lt 0 l.place) (items_of (items_shown (drop l.place l.items))) ≡ l.initial.out.items ++ items_text false (items_of (items_shown l.items))

abbrev pub decreases-loop-item : goal.decreases-loop-item
decreases-loop-item l = length l.items - l.place
