use Rattle.std.proofs.Common.{◌≡◌, ◌++◌, ◌+◌, ◌*◌, ◌-◌, drop, length}
use Rattle.reql_term.specs.Form.{weight, list_weight, fields_weight, forms_of, named_of}
use Rattle.reql_term.specs.View.{form_of}
use Rattle.reql_plan_spec.specs.Reads.{all_reads, named_reads}
use Rattle.reql_reads.proofs.reading.+reads.Given as goal

abbrev pub decreases-add_reads : goal.decreases-add_reads
decreases-add_reads l = 6 * weight (form_of l.term.now)

abbrev pub decreases-reads_in : goal.decreases-reads_in
decreases-reads_in l = 6 * weight (form_of l.term.now) + 1

abbrev pub decreases-add_but_first : goal.decreases-add_but_first
decreases-add_but_first l = 6 * weight (form_of l.term.now) + 2

abbrev pub decreases-add_first : goal.decreases-add_first
decreases-add_first l = 6 * weight (form_of l.term.now) + 3

abbrev pub decreases-add_all : goal.decreases-add_all
decreases-add_all l = 6 * list_weight l.terms.now + 1

abbrev pub decreases-add_named : goal.decreases-add_named
decreases-add_named l = 6 * fields_weight l.fields.now + 1

abbrev pub decreases-add_args : goal.decreases-add_args
decreases-add_args l = 6 * list_weight l.terms.now + 2

abbrev pub decreases-add_all-loop-term : goal.decreases-add_all-loop-term
decreases-add_all-loop-term l = length l.terms - l.place

abbrev pub decreases-add_named-loop-field : goal.decreases-add_named-loop-field
decreases-add_named-loop-field l = length l.fields - l.place

abbrev pub invariant-add_all-loop-term : goal.invariant-add_all-loop-term
invariant-add_all-loop-term l = l.found.items ++ all_reads (forms_of (drop l.place l.terms)) ≡ l.initial.found.items ++ all_reads (forms_of (drop l.fn.from l.terms))

abbrev pub invariant-add_named-loop-field : goal.invariant-add_named-loop-field
invariant-add_named-loop-field l = l.found.items ++ named_reads (named_of (drop l.place l.fields)) ≡ l.initial.found.items ++ named_reads (named_of l.fields)
