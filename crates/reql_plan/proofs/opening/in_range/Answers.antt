use Rattle.reql_term.specs.View.{form_of}
use Rattle.reql_plan_state.specs.Rest.{moment_rest}
use Rattle.reql_plan.proofs.Moments.{at_width, in_range}
use Rattle.reql_plan.proofs.opening.in_range.Goals as goal

pub returns-in-Some : goal.returns-in-Some
returns-in-Some g c =
    in_range g.V.TableView.documents g.V.TableView.indexes g.V.TableView.entries c.placed.result c.args.moment c.in-Some.whole
    (moment_rest c.args.asked.plan c.args.asked.setting c.args.asked.names (form_of c.args.asked.term)) (at_width c.args.moment c.in-Some.whole c.ranges.moment c.in-Some.ensures) c.placed.ensures
