use Rattle.std.proofs.Common.{◌≡◌, ◌++◌, ◌+◌, ◌*◌, ◌-◌, drop, length}
use Rattle.reql_term.specs.Form.{weight, list_weight, fields_weight, forms_of, named_of}
use Rattle.reql_term.specs.View.{form_of}
use Rattle.reql_write_spec.specs.Selecting.{slots_of, slots_named}
use Rattle.reql_reads.proofs.slotting.+slots.Given as goal

abbrev pub decreases-add_slots : goal.decreases-add_slots
decreases-add_slots l = 2 * weight (form_of l.term.now)

abbrev pub decreases-add_all : goal.decreases-add_all
decreases-add_all l = 2 * list_weight l.terms.now + 1

abbrev pub decreases-add_named : goal.decreases-add_named
decreases-add_named l = 2 * fields_weight l.fields.now + 1

abbrev pub decreases-add_all-loop-term : goal.decreases-add_all-loop-term
decreases-add_all-loop-term l = length l.terms - l.place

abbrev pub decreases-add_named-loop-field : goal.decreases-add_named-loop-field
decreases-add_named-loop-field l = length l.fields - l.place

abbrev pub invariant-add_all-loop-term : goal.invariant-add_all-loop-term
invariant-add_all-loop-term l = l.found.items ++ slots_of (forms_of (drop l.place l.terms)) ≡ l.initial.found.items ++ slots_of (forms_of l.terms)

abbrev pub invariant-add_named-loop-field : goal.invariant-add_named-loop-field
invariant-add_named-loop-field l = l.found.items ++ slots_named (named_of (drop l.place l.fields)) ≡ l.initial.found.items ++ slots_named (named_of l.fields)
