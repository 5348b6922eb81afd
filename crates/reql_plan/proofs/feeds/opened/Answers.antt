use Rattle.std.proofs.Common.{map, ◌∷◌, ◌++◌, []}
use Rattle.reql_plan_results.specs.Seen.{opened as seen}
use Rattle.reql_plan_context.specs.Seen.{held}
use Rattle.reql_plan_changes.specs.Seen.{asked}
use Rattle.reql_plan_state.specs.Rest.{feeds_rest}
use Rattle.reql_plan.proofs.Arms.{by_reply}
use Rattle.reql_plan.proofs.feeds.opened.Goals as goal

pub returns-in-Ran : goal.returns-in-Ran
returns-in-Ran g c =
    let e = held g.V.TableView.documents g.V.TableView.indexes g.V.TableView.entries c.args.e in
    by_reply g.V.TableView.documents g.V.TableView.indexes g.V.TableView.entries c.opened_if.result e (map seen c.args.before) c.args.opening c.args.found c.in-Ran.reply
    (λ x. feeds_rest e (asked c.args.feeding) (map seen c.args.before ++ x ∷ []) c.args.place) c.in-Ran.is c.opened_if.ensures
