use Rattle.std.proofs.Common.{◌≡◌, ◌+◌, ◌*◌, ◌-◌, drop, length}
use Rattle.reql_term.specs.Form.{weight, list_weight, fields_weight, forms_of, named_of}
use Rattle.reql_term.specs.View.{form_of}
use Rattle.reql_write_spec.specs.Selecting.{slots_of, slots_named}
use Rattle.reql_plan_spec.specs.Reads.{is_any}
use Rattle.reql_reads.proofs.leaking.+slot.Given as goal

abbrev pub decreases-has_slot : goal.decreases-has_slot
decreases-has_slot l = 2 * weight (form_of l.term.now)

abbrev pub decreases-any_slot : goal.decreases-any_slot
decreases-any_slot l = 2 * list_weight l.terms.now + 1

abbrev pub decreases-named_slot : goal.decreases-named_slot
decreases-named_slot l = 2 * fields_weight l.fields.now + 1

abbrev pub decreases-any_slot-loop-term : goal.decreases-any_slot-loop-term
decreases-any_slot-loop-term l = length l.terms - l.place

abbrev pub decreases-named_slot-loop-field : goal.decreases-named_slot-loop-field
decreases-named_slot-loop-field l = length l.fields - l.place

abbrev pub invariant-any_slot-loop-term : goal.invariant-any_slot-loop-term
invariant-any_slot-loop-term l = is_any (slots_of (forms_of (drop l.place l.terms))) ≡ is_any (slots_of (forms_of l.terms))

abbrev pub invariant-named_slot-loop-field : goal.invariant-named_slot-loop-field
invariant-named_slot-loop-field l = is_any (slots_named (named_of (drop l.place l.fields))) ≡ is_any (slots_named (named_of l.fields))
