use Rattle.std.proofs.Common.{◌≡◌, ◌++◌, ◌-◌, drop, length}
use Rattle.reql_term.specs.Form.{forms_of}
use Rattle.reql_plan_spec.specs.Reads.{arms_read}
use Rattle.reql_reads.proofs.followed.add_arms.Given as goal

abbrev pub decreases-loop-term : goal.decreases-loop-term
decreases-loop-term l = length l.terms - l.place

abbrev pub invariant-loop-term : goal.invariant-loop-term
invariant-loop-term l = l.found.items ++ arms_read (forms_of (drop l.place l.terms)) ≡ l.initial.found.items ++ arms_read (forms_of l.terms)
