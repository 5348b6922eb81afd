use Rattle.std.proofs.Common.{sym, ap, subst}
use Rattle.reql_datum.specs.Outcome.{Gives}
use Rattle.reql_term.specs.View.{form_of}
use Rattle.reql_plan_spec.specs.Reads.{args_of}
use Rattle.reql_plan_context.specs.Seen.{held}
use Rattle.reql_plan_results.specs.Seen.{told}
use Rattle.reql_plan_changes.specs.Followed.{limit_over as limit_over_of}
use Rattle.reql_plan_changes.proofs.openings.limit_opening.Goals as goal

pub returns-in-Op : goal.returns-in-Op
returns-in-Op g c =
    let e = held g.V.TableView.documents g.V.TableView.indexes g.V.TableView.entries c.args.request.now in
    subst (Gives (λ o. o) c.limit_over.result) (ap (λ fs. limit_over_of e (told c.args.options) (form_of c.args.term.now) fs) (sym (ap (λ t. args_of (form_of t)) c.in-Op.is))) c.limit_over.ensures
