use Rattle.std.proofs.Common.{map}
use Rattle.reql_plan_results.specs.Seen.{opened as seen}
use Rattle.reql_plan_context.specs.Seen.{held}
use Rattle.reql_plan_changes.specs.Seen.{asked}
use Rattle.reql_plan.proofs.Arms.{next_feed}
use Rattle.reql_plan.proofs.feeds.subscribe.Goals as goal

pub returns-in_ok-opening-in-Some : goal.returns-in_ok-opening-in-Some
returns-in_ok-opening-in-Some g c =
    next_feed g.V.TableView.documents g.V.TableView.indexes g.V.TableView.entries c.ask_feed.result (held g.V.TableView.documents g.V.TableView.indexes g.V.TableView.entries c.args.e) (asked c.args.feeding) (map seen c.args.before) c.args.place
    c.in-Some.opening.now c.in_ok-opening-in-Some.opening c.in-Some.ensures.rest c.in_ok-opening-in-Some.ensures c.ask_feed.ensures
