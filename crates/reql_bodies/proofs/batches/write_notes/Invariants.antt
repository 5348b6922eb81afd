use Rattle.std.proofs.Common.{◌≡◌, ◌++◌, ◌-◌, drop, length, nat_lt, false}
use Rattle.reql_bodies.specs.Parts.{numbers_text}
use Rattle.reql_bodies.proofs.batches.write_notes.Given as goal

abbrev pub invariant-loop-note : goal.invariant-loop-note
invariant-loop-note l = l.out.items ++ numbers_text (nat_lt 0 l.place) (drop l.place l.notes) ≡ l.initial.out.items ++ numbers_text false l.notes

abbrev pub decreases-loop-note : goal.decreases-loop-note
decreases-loop-note l = length l.notes - l.place
