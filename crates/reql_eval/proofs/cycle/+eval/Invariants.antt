use Rattle.std.proofs.Common.{◌≡◌, ◌+◌, ◌-◌, ◌*◌, ◌++◌, length, drop, Ok}
use Rattle.reql_datum.specs.Answer.{◌>>=◌}
use Rattle.reql_term.specs.Form.{weight, fields_weight}
use Rattle.reql_term.specs.View.{form_of}
use Rattle.reql_value_spec.specs.Sense.{options}
use Rattle.reql_operand.specs.Seen.{all_chosen}
use Rattle.reql_operand.specs.Tables.{seen}
use Rattle.reql_term_analysis.specs.Bound.{bound, optional, all_weight}
use Rattle.reql_term_analysis.specs.Ways.{chosen}
use Rattle.reql_eval.proofs.cycle.+eval.Given as goal

abbrev pub invariant-eval_options-loop-name : goal.invariant-eval_options-loop-name
invariant-eval_options-loop-name g l =
    let w = seen g.V.TableView.documents g.V.TableView.indexes g.V.TableView.entries l.world in
    options (chosen l.way) (optional l.opts) w (bound l.vars) ≡ (options (chosen l.way) (optional (drop l.place l.opts)) w (bound l.vars) >>= λ os. Ok (all_chosen w l.found.items ++ os))

abbrev pub decreases-eval_options-loop-name : goal.decreases-eval_options-loop-name
decreases-eval_options-loop-name g l = length l.opts - l.place

-- of what takes a term
abbrev pub decreases-eval_term : goal.decreases-eval_term
decreases-eval_term g l = 16 * weight (form_of l.term.now)

abbrev pub decreases-eval_found : goal.decreases-eval_found
decreases-eval_found g l = 16 * weight (form_of l.term.now) + 1

abbrev pub decreases-eval_arg : goal.decreases-eval_arg
decreases-eval_arg g l = 16 * weight (form_of l.term.now) + 2

abbrev pub decreases-eval_key : goal.decreases-eval_key
decreases-eval_key g l = 16 * weight (form_of l.term.now) + 3

abbrev pub decreases-eval_taken : goal.decreases-eval_taken
decreases-eval_taken g l = 16 * weight (form_of l.term.now) + 4

abbrev pub decreases-eval_option : goal.decreases-eval_option
decreases-eval_option g l = 16 * weight (form_of l.term.now) + 2

abbrev pub decreases-eval_index : goal.decreases-eval_index
decreases-eval_index g l = 16 * weight (form_of l.term.now) + 3

abbrev pub decreases-eval_late : goal.decreases-eval_late
decreases-eval_late g l = 16 * weight (form_of l.term.now) + 3

abbrev pub decreases-eval_chosen : goal.decreases-eval_chosen
decreases-eval_chosen g l = 16 * weight (form_of l.term.now) + 4

abbrev pub decreases-call_term : goal.decreases-call_term
decreases-call_term g l = 16 * weight (form_of l.term.now) + 2

abbrev pub decreases-give_to : goal.decreases-give_to
decreases-give_to g l = 16 * weight (form_of l.term.now) + 3

abbrev pub decreases-eval_simply : goal.decreases-eval_simply
decreases-eval_simply g l = 16 * weight (form_of l.term.now) + 1

abbrev pub decreases-call_body : goal.decreases-call_body
decreases-call_body g l = 16 * weight (form_of l.body.now) + 2

abbrev pub decreases-eval_either : goal.decreases-eval_either
decreases-eval_either g l = 16 * (weight (form_of l.first.now) + weight (form_of l.second.now)) + 5

-- of what takes terms
abbrev pub decreases-eval_at : goal.decreases-eval_at
decreases-eval_at g l = 16 * all_weight l.terms.now + 1

abbrev pub decreases-eval_taken_at : goal.decreases-eval_taken_at
decreases-eval_taken_at g l = 16 * all_weight l.terms.now + 1

abbrev pub decreases-eval_args : goal.decreases-eval_args
decreases-eval_args g l = 16 * all_weight l.terms.now + 3

abbrev pub decreases-eval_lazily : goal.decreases-eval_lazily
decreases-eval_lazily g l = 16 * all_weight l.terms.now + 3

abbrev pub decreases-eval_default : goal.decreases-eval_default
decreases-eval_default g l = 16 * all_weight l.terms.now + 1

abbrev pub decreases-apply_to : goal.decreases-apply_to
decreases-apply_to g l = 16 * all_weight l.terms.now + 3

abbrev pub decreases-call : goal.decreases-call
decreases-call g l = 16 * all_weight l.terms.now + 1

abbrev pub decreases-eval_ordered : goal.decreases-eval_ordered
decreases-eval_ordered g l = 16 * all_weight l.terms.now + 1

-- of what takes terms by name
abbrev pub decreases-eval_options : goal.decreases-eval_options
decreases-eval_options g l = 16 * fields_weight l.opts.now + 1

abbrev pub decreases-eval_object : goal.decreases-eval_object
decreases-eval_object g l = 16 * fields_weight l.fields.now + 2

abbrev pub decreases-eval_array : goal.decreases-eval_array
decreases-eval_array g l = 16 * all_weight l.terms.now + 7

abbrev pub decreases-eval_all : goal.decreases-eval_all
decreases-eval_all g l = 16 * (all_weight l.terms.now + fields_weight l.opts.now) + 6

abbrev pub decreases-eval_by : goal.decreases-eval_by
decreases-eval_by g l = 16 * (all_weight l.terms.now + fields_weight l.opts.now) + 7

abbrev pub decreases-eval_operation : goal.decreases-eval_operation
decreases-eval_operation g l = 16 * (all_weight l.terms.now + fields_weight l.opts.now) + 8

-- of the closures
abbrev pub decreases-apply_to-apply_by : goal.decreases-apply_to-apply_by
decreases-apply_to-apply_by g l = 16 * all_weight l.terms.now + 2

abbrev pub decreases-eval_args-arguments : goal.decreases-eval_args-arguments
decreases-eval_args-arguments g l = 16 * all_weight l.terms.now + 2

abbrev pub decreases-eval_lazily-lazily : goal.decreases-eval_lazily-lazily
decreases-eval_lazily-lazily g l = 16 * all_weight l.terms.now + 2

abbrev pub decreases-eval_either-default_to : goal.decreases-eval_either-default_to
decreases-eval_either-default_to g l = 16 * weight (form_of l.second.now) + 4
