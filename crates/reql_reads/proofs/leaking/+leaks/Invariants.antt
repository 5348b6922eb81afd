use Rattle.std.proofs.Common.{◌≡◌, ◌+◌, ◌*◌, ◌-◌, drop, length}
use Rattle.reql_term.specs.Form.{weight, list_weight, fields_weight, forms_of, named_of}
use Rattle.reql_term.specs.View.{form_of}
use Rattle.reql_plan_spec.specs.Reads.{all_leak, named_leak}
use Rattle.reql_reads.proofs.leaking.+leaks.Given as goal

abbrev pub decreases-leaks_in : goal.decreases-leaks_in
decreases-leaks_in l = 3 * weight (form_of l.term.now)

abbrev pub decreases-parts_leak : goal.decreases-parts_leak
decreases-parts_leak l = 3 * (list_weight l.args.now + fields_weight l.opts.now) + 2

abbrev pub decreases-all_leak : goal.decreases-all_leak
decreases-all_leak l = 3 * list_weight l.terms.now + 1

abbrev pub decreases-named_leak : goal.decreases-named_leak
decreases-named_leak l = 3 * fields_weight l.fields.now + 1

abbrev pub decreases-all_leak-loop-term : goal.decreases-all_leak-loop-term
decreases-all_leak-loop-term l = length l.terms - l.place

abbrev pub decreases-named_leak-loop-field : goal.decreases-named_leak-loop-field
decreases-named_leak-loop-field l = length l.fields - l.place

abbrev pub invariant-all_leak-loop-term : goal.invariant-all_leak-loop-term
invariant-all_leak-loop-term l = all_leak l.closed (forms_of (drop l.place l.terms)) ≡ all_leak l.closed (forms_of l.terms)

abbrev pub invariant-named_leak-loop-field : goal.invariant-named_leak-loop-field
invariant-named_leak-loop-field l = named_leak l.closed (named_of (drop l.place l.fields)) ≡ named_leak l.closed (named_of l.fields)
