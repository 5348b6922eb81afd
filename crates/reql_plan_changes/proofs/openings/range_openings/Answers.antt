use Rattle.reql_term.specs.View.{form_of}
use Rattle.reql_plan_context.specs.Seen.{held}
use Rattle.reql_plan_results.specs.Seen.{told}
use Rattle.reql_plan_changes.proofs.Opened.{opened_step}
use Rattle.reql_plan_changes.proofs.openings.range_openings.Goals as goal

pub loop-term-preserved : goal.loop-term-preserved
loop-term-preserved g c =
    let e = held g.V.TableView.documents g.V.TableView.indexes g.V.TableView.entries c.args.request.now in
    opened_step form_of e (told c.args.options) c.args.terms.now c.loop-term.term-index c.term-item.result c.in_ok-one.one c.loop-term.list.items c.push.new.self.items _
    c.loop-term-test.true c.term-item.is c.in_ok-one.ensures c.in_ok-push.ensures.items c.loop-term.invariant
