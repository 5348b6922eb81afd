use Rattle.std.proofs.Common.{◌≡◌, ◌+◌, ◌*◌, ◌-◌, drop, length}
use Rattle.reql_term.specs.Form.{weight, list_weight, fields_weight, forms_of, named_of}
use Rattle.reql_term.specs.View.{form_of}
use Rattle.reql_print.specs.Printed.{are_held, are_named_held}
use Rattle.reql_print.proofs.held.+held.Given as goal

abbrev pub decreases-is_held : goal.decreases-is_held
decreases-is_held l = 3 * weight (form_of l.term.now)

abbrev pub decreases-parts_are_held : goal.decreases-parts_are_held
decreases-parts_are_held l = 3 * (list_weight l.args.now + fields_weight l.opts.now) + 2

abbrev pub decreases-are_held : goal.decreases-are_held
decreases-are_held l = 3 * list_weight l.terms.now + 1

abbrev pub decreases-are_named_held : goal.decreases-are_named_held
decreases-are_named_held l = 3 * fields_weight l.fields.now + 1

abbrev pub decreases-are_held-loop-term : goal.decreases-are_held-loop-term
decreases-are_held-loop-term l = length l.terms - l.place

abbrev pub decreases-are_named_held-loop-field : goal.decreases-are_named_held-loop-field
decreases-are_named_held-loop-field l = length l.fields - l.place

abbrev pub invariant-are_held-loop-term : goal.invariant-are_held-loop-term
invariant-are_held-loop-term l = are_held (forms_of (drop l.place l.terms)) ≡ are_held (forms_of l.terms)

abbrev pub invariant-are_named_held-loop-field : goal.invariant-are_named_held-loop-field
invariant-are_named_held-loop-field l = are_named_held (named_of (drop l.place l.fields)) ≡ are_named_held (named_of l.fields)
