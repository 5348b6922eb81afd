use Rattle.std.proofs.Common.{◌≡◌, ◌+◌, ◌*◌, ◌-◌, drop, length}
use Rattle.reql_term.specs.Form.{weight, list_weight, fields_weight, forms_of, named_of}
use Rattle.reql_term.specs.View.{form_of}
use Rattle.reql_read.specs.Spelling.{spelled_all, spelled_named, HaveText, MembersHaveText}
use Rattle.reql_print.proofs.texts.+texts.Given as goal

abbrev pub decreases-has_text : goal.decreases-has_text
decreases-has_text l = 3 * weight (form_of l.term.now)

abbrev pub decreases-have_text : goal.decreases-have_text
decreases-have_text l = 3 * list_weight l.terms.now + 1

abbrev pub decreases-named_have_text : goal.decreases-named_have_text
decreases-named_have_text l = 3 * fields_weight l.fields.now + 1

abbrev pub decreases-have_text-loop-term : goal.decreases-have_text-loop-term
decreases-have_text-loop-term l = length l.terms - l.place

abbrev pub decreases-named_have_text-loop-name : goal.decreases-named_have_text-loop-name
decreases-named_have_text-loop-name l = length l.fields - l.place

abbrev pub invariant-have_text-loop-term : goal.invariant-have_text-loop-term
invariant-have_text-loop-term l = HaveText (spelled_all (forms_of (drop l.place l.terms))) → HaveText (spelled_all (forms_of l.terms))

abbrev pub invariant-named_have_text-loop-name : goal.invariant-named_have_text-loop-name
invariant-named_have_text-loop-name l = MembersHaveText (spelled_named (named_of (drop l.place l.fields))) → MembersHaveText (spelled_named (named_of l.fields))
