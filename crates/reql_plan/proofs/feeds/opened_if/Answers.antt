use Rattle.std.proofs.Common.{map, ◌∷◌, ◌++◌, []}
use Rattle.reql_table_spec.specs.Replies.{told_of}
use Rattle.reql_plan_results.specs.Seen.{opened as seen}
use Rattle.reql_plan_context.specs.Seen.{held}
use Rattle.reql_plan_changes.specs.Seen.{asked}
use Rattle.reql_plan_state.specs.Rest.{feeds_rest}
use Rattle.reql_plan.proofs.Arms.{if_saved}
use Rattle.reql_plan.proofs.feeds.opened_if.Goals as goal

pub returns-in-Yes : goal.returns-in-Yes
returns-in-Yes g c =
    let e = held g.V.TableView.documents g.V.TableView.indexes g.V.TableView.entries c.args.e in
    if_saved g.V.TableView.documents g.V.TableView.indexes g.V.TableView.entries c.opened_by.result e (map seen c.args.before) c.args.opening (told_of c.args.reply) c.args.reply.saved
    (λ x. feeds_rest e (asked c.args.feeding) (map seen c.args.before ++ x ∷ []) c.args.place) c.in-Yes.is c.opened_by.ensures
