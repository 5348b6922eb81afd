use Rattle.std.proofs.Common.{◌≡◌, ◌+◌, ◌*◌, ◌++◌, ◌-◌, length, drop, nat_lt, false}
use Rattle.serde_json.specs.Written.{items_text, members_text}
use Rattle.reql_term.specs.Form.{weight, list_weight, fields_weight, forms_of, named_of}
use Rattle.reql_term.specs.View.{form_of}
use Rattle.reql_read.specs.Spelling.{spelled_all, spelled_named}
use Rattle.reql_print.proofs.write.+write.Given as goal

abbrev pub decreases-write_term : goal.decreases-write_term
decreases-write_term l = 4 * weight (form_of l.term.now)

abbrev pub decreases-write_object : goal.decreases-write_object
decreases-write_object l = 4 * fields_weight l.fields.now + 2

abbrev pub decreases-write_function : goal.decreases-write_function
decreases-write_function l = 4 * weight l.body.now + 1

abbrev pub decreases-write_several : goal.decreases-write_several
decreases-write_several l = 4 * list_weight l.args.now + 2

abbrev pub decreases-write_call : goal.decreases-write_call
decreases-write_call l = 4 * (list_weight l.args.now + fields_weight l.opts.now) + 3

abbrev pub decreases-write_all : goal.decreases-write_all
decreases-write_all l = 4 * list_weight l.terms.now + 1

abbrev pub decreases-write_named : goal.decreases-write_named
decreases-write_named l = 4 * fields_weight l.fields.now + 1

abbrev pub invariant-write_all-loop-term : goal.invariant-write_all-loop-term
invariant-write_all-loop-term l =
    l.out.items ++ items_text (nat_lt 0 l.place) (spelled_all (forms_of (drop l.place l.terms))) ≡ l.initial.out.items ++ items_text false (spelled_all (forms_of l.terms))

abbrev pub decreases-write_all-loop-term : goal.decreases-write_all-loop-term
decreases-write_all-loop-term l = length l.terms - l.place

abbrev pub invariant-write_named-loop-name : goal.invariant-write_named-loop-name
invariant-write_named-loop-name l =
    l.out.items ++ members_text (nat_lt 0 l.place) (spelled_named (named_of (drop l.place l.fields))) ≡ l.initial.out.items ++ members_text false (spelled_named (named_of l.fields))

abbrev pub decreases-write_named-loop-name : goal.decreases-write_named-loop-name
decreases-write_named-loop-name l = length l.fields - l.place
