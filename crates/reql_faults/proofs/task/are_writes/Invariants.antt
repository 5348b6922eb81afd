use Rattle.std.proofs.Common.{◌≡◌, ◌-◌, drop, length}
use Rattle.reql_term.specs.Form.{forms_of}
use Rattle.reql_faults.specs.Faults.{are_writes}
use Rattle.reql_faults.proofs.task.are_writes.Given as goal

abbrev pub invariant-loop-term : goal.invariant-loop-term
invariant-loop-term l = are_writes (forms_of l.terms) ≡ are_writes (forms_of (drop l.place l.terms))

abbrev pub decreases-loop-term : goal.decreases-loop-term
decreases-loop-term l = length l.terms - l.place
