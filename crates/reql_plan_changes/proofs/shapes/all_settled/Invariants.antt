use Rattle.std.proofs.Common.{◌≡◌, ◌++◌, ◌-◌, drop, length, Ok}
use Rattle.reql_datum.specs.Answer.{◌>>=◌}
use Rattle.reql_term.specs.Form.{forms_of}
use Rattle.reql_plan_context.specs.Seen.{held}
use Rattle.reql_plan_spec.specs.Feeding.{all_settled}
use Rattle.reql_plan_changes.proofs.shapes.all_settled.Given as goal

abbrev pub decreases-loop-term : goal.decreases-loop-term
decreases-loop-term g l = length l.terms - l.place

abbrev pub invariant-loop-term : goal.invariant-loop-term
invariant-loop-term g l =
    let e = held g.V.TableView.documents g.V.TableView.indexes g.V.TableView.entries l.request in
    all_settled e (forms_of l.terms) ≡ (all_settled e (forms_of (drop l.place l.terms)) >>= λ gs. Ok (l.list ++ gs))
