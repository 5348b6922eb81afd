use Rattle.std.proofs.Common.{◌≡◌, ◌-◌, drop, length}
use Rattle.reql_session_spec.specs.Bodies.{is_united}
use Rattle.reql_bodies.proofs.batches.is_united.Given as goal

abbrev pub invariant-loop-note : goal.invariant-loop-note
invariant-loop-note l = is_united (drop l.place l.notes) ≡ is_united l.notes

abbrev pub decreases-loop-note : goal.decreases-loop-note
decreases-loop-note l = length l.notes - l.place
