use Rattle.std.proofs.Common.{◌≡◌, ◌++◌, drop, map, Ok}
use Rattle.reql_datum.specs.Answer.{◌>>=◌}
use Rattle.reql_term.specs.View.{form_of}
use Rattle.reql_plan_context.specs.Seen.{held}
use Rattle.reql_plan_results.specs.Seen.{told}
use Rattle.reql_plan_spec.specs.Feeding.{range_openings}
use Rattle.reql_plan_changes.proofs.openings.range_openings.Given as goal

abbrev pub invariant-loop-term : goal.invariant-loop-term
invariant-loop-term g l =
    let e = held g.V.TableView.documents g.V.TableView.indexes g.V.TableView.entries l.request in
    range_openings e (told l.options) (map form_of l.terms) ≡ (range_openings e (told l.options) (map form_of (drop l.term-index l.terms)) >>= λ os. Ok (l.list.items ++ os))
