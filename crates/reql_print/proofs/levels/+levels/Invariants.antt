use Rattle.std.proofs.Common.{◌≡◌, ◌+◌, ◌*◌, ◌-◌, nat_le, drop, length}
use Rattle.serde_json.specs.Data.{items_depth, members_depth}
use Rattle.reql_term.specs.Form.{weight, list_weight, fields_weight, forms_of, named_of}
use Rattle.reql_term.specs.View.{form_of}
use Rattle.reql_read.specs.Spelling.{spelled_all, spelled_named}
use Rattle.reql_print.proofs.levels.+levels.Given as goal

abbrev pub decreases-fits : goal.decreases-fits
decreases-fits l = 4 * weight (form_of l.term.now)

abbrev pub decreases-object_fits : goal.decreases-object_fits
decreases-object_fits l = 4 * fields_weight l.fields.now + 2

abbrev pub decreases-function_fits : goal.decreases-function_fits
decreases-function_fits l = 4 * weight l.body.now + 1

abbrev pub decreases-several_fit : goal.decreases-several_fit
decreases-several_fit l = 4 * list_weight l.args.now + 2

abbrev pub decreases-call_fits : goal.decreases-call_fits
decreases-call_fits l = 4 * (list_weight l.args.now + fields_weight l.opts.now) + 3

abbrev pub decreases-all_fit : goal.decreases-all_fit
decreases-all_fit l = 4 * list_weight l.terms.now + 1

abbrev pub decreases-named_fit : goal.decreases-named_fit
decreases-named_fit l = 4 * fields_weight l.fields.now + 1

abbrev pub decreases-all_fit-loop-term : goal.decreases-all_fit-loop-term
decreases-all_fit-loop-term l = length l.terms - l.place

abbrev pub decreases-named_fit-loop-field : goal.decreases-named_fit-loop-field
decreases-named_fit-loop-field l = length l.fields - l.place

abbrev pub invariant-all_fit-loop-term : goal.invariant-all_fit-loop-term
invariant-all_fit-loop-term l = nat_le (items_depth (spelled_all (forms_of (drop l.place l.terms)))) l.levels ≡ nat_le (items_depth (spelled_all (forms_of l.terms))) l.levels

abbrev pub invariant-named_fit-loop-field : goal.invariant-named_fit-loop-field
invariant-named_fit-loop-field l = nat_le (members_depth (spelled_named (named_of (drop l.place l.fields)))) l.levels ≡ nat_le (members_depth (spelled_named (named_of l.fields))) l.levels
