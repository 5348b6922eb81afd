use Rattle.reql_term.specs.View.{form_of}
use Rattle.reql_plan_context.specs.Seen.{held}
use Rattle.reql_plan_results.specs.Seen.{told}
use Rattle.reql_plan_changes.proofs.Opened.{several_opened}
use Rattle.reql_plan_changes.proofs.openings.limit_openings.Goals as goal

pub returns-in-len2-up : goal.returns-in-len2-up
returns-in-len2-up g c =
    let e = held g.V.TableView.documents g.V.TableView.indexes g.V.TableView.entries c.args.request.now in
    several_opened form_of e (told c.args.options) _ c.args.terms.now c.range_openings-in-len2-up.result c.in-len2-up.len_at_least c.range_openings-in-len2-up.ensures
