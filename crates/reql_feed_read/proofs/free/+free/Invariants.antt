use Rattle.std.proofs.Common.{◌≡◌, ◌+◌, ◌*◌, ◌-◌, drop, length}
use Rattle.reql_feed_spec.specs.Kept.{are_free, fields_free}
use Rattle.reql_term.specs.Form.{weight, list_weight, fields_weight, forms_of, named_of}
use Rattle.reql_term.specs.View.{form_of}
use Rattle.reql_feed_read.specs.Scopes.{scope_of}
use Rattle.reql_feed_read.proofs.free.+free.Given as goal

abbrev pub decreases-is_free : goal.decreases-is_free
decreases-is_free l = 2 * weight (form_of l.term.now)

abbrev pub decreases-is_free_inside : goal.decreases-is_free_inside
decreases-is_free_inside l = 2 * weight (form_of l.body.now) + 1

abbrev pub decreases-are_free : goal.decreases-are_free
decreases-are_free l = 2 * list_weight l.terms.now + 1

abbrev pub decreases-fields_free : goal.decreases-fields_free
decreases-fields_free l = 2 * fields_weight l.fields.now + 1

abbrev pub decreases-are_free-loop-term : goal.decreases-are_free-loop-term
decreases-are_free-loop-term l = length l.terms - l.place

abbrev pub decreases-fields_free-loop-term : goal.decreases-fields_free-loop-term
decreases-fields_free-loop-term l = length l.fields - l.place

abbrev pub invariant-are_free-loop-term : goal.invariant-are_free-loop-term
invariant-are_free-loop-term l = are_free (scope_of l.scope) (forms_of (drop l.place l.terms)) ≡ are_free (scope_of l.scope) (forms_of (drop l.from l.terms))

abbrev pub invariant-fields_free-loop-term : goal.invariant-fields_free-loop-term
invariant-fields_free-loop-term l = fields_free (scope_of l.scope) (named_of (drop l.place l.fields)) ≡ fields_free (scope_of l.scope) (named_of l.fields)
