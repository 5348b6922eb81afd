use Rattle.std.proofs.Common.{◌≡◌, ◌+◌, ◌*◌, ◌-◌, ◌++◌, drop, take, length, Ok}
use Rattle.std.specs.Map.{keys_of}
use Rattle.std.specs.Option.{unwrap_or}
use Rattle.reql_datum.specs.Answer.{◌>>=◌}
use Rattle.reql_term.specs.Form.{weight, list_weight, fields_weight, forms_of, named_of}
use Rattle.reql_term.specs.View.{form_of}
use Rattle.reql_rewrite.specs.Rewrite.{all_rewritten, named_rewritten}
use Rattle.reql_rewrite.proofs.walk.+rewrite.Given as goal

abbrev pub decreases-changed : goal.decreases-changed
decreases-changed g l = 2 * weight (form_of l.term.now)

abbrev pub decreases-changed_all : goal.decreases-changed_all
decreases-changed_all g l = 2 * list_weight l.terms.now + 1

abbrev pub decreases-changed_named : goal.decreases-changed_named
decreases-changed_named g l = 2 * fields_weight l.fields.now + 1

abbrev pub decreases-changed_all-loop-term : goal.decreases-changed_all-loop-term
decreases-changed_all-loop-term g l = length l.terms - l.place

abbrev pub decreases-changed_named-loop-name : goal.decreases-changed_named-loop-name
decreases-changed_named-loop-name g l = length l.fields - l.place

abbrev pub invariant-changed_all-loop-term : goal.invariant-changed_all-loop-term
invariant-changed_all-loop-term g l = record {
  whole : all_rewritten (g.R.Rule.rule l.rule) (forms_of l.terms) ≡ (all_rewritten (g.R.Rule.rule l.rule) (forms_of (drop l.place l.terms)) >>= λ gs. Ok (take l.place (unwrap_or l.done l.terms) ++ gs));
  left : drop l.place (unwrap_or l.done l.terms) ≡ drop l.place l.terms;
}

abbrev pub invariant-changed_named-loop-name : goal.invariant-changed_named-loop-name
invariant-changed_named-loop-name g l = record {
  whole : named_rewritten (g.R.Rule.rule l.rule) (named_of l.fields) ≡ (named_rewritten (g.R.Rule.rule l.rule) (named_of (drop l.place l.fields)) >>= λ ns. Ok (take l.place (unwrap_or l.done l.fields) ++ ns));
  left : drop l.place (unwrap_or l.done l.fields) ≡ drop l.place l.fields;
  names : keys_of (unwrap_or l.done l.fields) ≡ keys_of l.fields;
}
