use Rattle.std.proofs.Common.{◌≡◌, ◌+◌, ◌*◌, ◌-◌, drop, length}
use Rattle.reql_term.specs.Form.{weight, list_weight, fields_weight, forms_of, named_of}
use Rattle.reql_term.specs.View.{form_of}
use Rattle.reql_plan_spec.specs.Reads.{any_now, named_now}
use Rattle.reql_reads.proofs.now.+now.Given as goal

abbrev pub decreases-has_now : goal.decreases-has_now
decreases-has_now l = 3 * weight (form_of l.term.now)

abbrev pub decreases-parts_now : goal.decreases-parts_now
decreases-parts_now l = 3 * (list_weight l.args.now + fields_weight l.opts.now) + 2

abbrev pub decreases-any_now : goal.decreases-any_now
decreases-any_now l = 3 * list_weight l.terms.now + 1

abbrev pub decreases-named_now : goal.decreases-named_now
decreases-named_now l = 3 * fields_weight l.fields.now + 1

abbrev pub decreases-any_now-loop-term : goal.decreases-any_now-loop-term
decreases-any_now-loop-term l = length l.terms - l.place

abbrev pub decreases-named_now-loop-field : goal.decreases-named_now-loop-field
decreases-named_now-loop-field l = length l.fields - l.place

abbrev pub invariant-any_now-loop-term : goal.invariant-any_now-loop-term
invariant-any_now-loop-term l = any_now (forms_of (drop l.place l.terms)) ≡ any_now (forms_of l.terms)

abbrev pub invariant-named_now-loop-field : goal.invariant-named_now-loop-field
invariant-named_now-loop-field l = named_now (named_of (drop l.place l.fields)) ≡ named_now (named_of l.fields)
