use Rattle.std.proofs.Common.{◌≡◌, ◌++◌, ◌+◌, ◌*◌, ◌-◌, drop, length, Ok}
use Rattle.reql_datum.specs.Answer.{◌>>=◌}
use Rattle.reql_term.specs.Form.{weight, list_weight, forms_of}
use Rattle.reql_term.specs.View.{form_of}
use Rattle.reql_operand.specs.Tables.{seen}
use Rattle.reql_plan_spec.specs.Settled.{arguments}
use Rattle.reql_plan_context.specs.Keeping.{kept_by}
use Rattle.reql_plan_context.proofs.placed.+placed.Given as goal

abbrev pub decreases-placed : goal.decreases-placed
decreases-placed g l = 3 * weight (form_of l.term.now)

abbrev pub decreases-over_literals : goal.decreases-over_literals
decreases-over_literals g l = 3 * list_weight l.args.now + 2

abbrev pub decreases-arguments : goal.decreases-arguments
decreases-arguments g l = 3 * list_weight l.terms.now + 1

abbrev pub decreases-arguments-loop-term : goal.decreases-arguments-loop-term
decreases-arguments-loop-term g l = length l.terms - l.place

abbrev pub invariant-arguments-loop-term : goal.invariant-arguments-loop-term
invariant-arguments-loop-term g l =
    let w = seen g.V.TableView.documents g.V.TableView.indexes g.V.TableView.entries l.world in
    arguments (kept_by l.keeps) w (forms_of (drop l.fn.from l.terms)) ≡ (arguments (kept_by l.keeps) w (forms_of (drop l.place l.terms)) >>= λ gs. Ok (l.list ++ gs))
