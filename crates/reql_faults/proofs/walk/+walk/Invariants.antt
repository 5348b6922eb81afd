use Rattle.std.proofs.Common.{◌≡◌, ◌+◌, ◌*◌, ◌-◌, drop, length}
use Rattle.reql_term.specs.Form.{weight, list_weight, fields_weight, forms_of, named_of}
use Rattle.reql_term.specs.View.{form_of}
use Rattle.reql_faults.specs.Places.{count}
use Rattle.reql_faults.specs.Faults.{member_faults, part_faults, named_faults, first_fault}
use Rattle.reql_faults.specs.Finds.{around}
use Rattle.reql_faults.proofs.walk.+walk.Given as goal

abbrev pub decreases-fault_of : goal.decreases-fault_of
decreases-fault_of l = 3 * weight (form_of l.term.now)

abbrev pub decreases-fault_of_body : goal.decreases-fault_of_body
decreases-fault_of_body l = 3 * weight l.body.now + 1

abbrev pub decreases-fault_of_op : goal.decreases-fault_of_op
decreases-fault_of_op l = 3 * (list_weight l.args.now + fields_weight l.opts.now) + 2

abbrev pub decreases-fault_of_members : goal.decreases-fault_of_members
decreases-fault_of_members l = 3 * list_weight l.terms.now + 1

abbrev pub decreases-fault_of_parts : goal.decreases-fault_of_parts
decreases-fault_of_parts l = 3 * list_weight l.terms.now + 1

abbrev pub decreases-fault_of_named : goal.decreases-fault_of_named
decreases-fault_of_named l = 3 * fields_weight l.fields.now + 1

abbrev pub decreases-fault_of_members-loop-term : goal.decreases-fault_of_members-loop-term
decreases-fault_of_members-loop-term l = length l.terms - l.place

abbrev pub decreases-fault_of_parts-loop-term : goal.decreases-fault_of_parts-loop-term
decreases-fault_of_parts-loop-term l = length l.terms - l.place

abbrev pub decreases-fault_of_named-loop-name : goal.decreases-fault_of_named-loop-name
decreases-fault_of_named-loop-name l = length l.fields - l.place

-- what is left of the walk stands for the whole, and the variables in scope are as they were
abbrev pub invariant-fault_of_members-loop-term : goal.invariant-fault_of_members-loop-term
invariant-fault_of_members-loop-term l =
    (first_fault (member_faults (around l.scope l.initial.ids.items) (forms_of l.terms)) ≡ first_fault (member_faults (around l.scope l.initial.ids.items) (forms_of (drop l.place l.terms))))
    × (l.ids.items ≡ l.initial.ids.items)

abbrev pub invariant-fault_of_parts-loop-term : goal.invariant-fault_of_parts-loop-term
invariant-fault_of_parts-loop-term l =
    (first_fault (part_faults (around l.scope l.initial.ids.items) l.task (count (forms_of l.terms)) 0 (forms_of l.terms)) ≡ first_fault (part_faults (around l.scope l.initial.ids.items) l.task (count (forms_of l.terms)) l.place (forms_of (drop l.place l.terms))))
    × (l.ids.items ≡ l.initial.ids.items)

abbrev pub invariant-fault_of_named-loop-name : goal.invariant-fault_of_named-loop-name
invariant-fault_of_named-loop-name l =
    (first_fault (named_faults (around l.scope l.initial.ids.items) (named_of l.fields)) ≡ first_fault (named_faults (around l.scope l.initial.ids.items) (named_of (drop l.place l.fields))))
    × (l.ids.items ≡ l.initial.ids.items)
