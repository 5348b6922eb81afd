use Rattle.reql_plan_driver.proofs.Leading.{clock_step}
use Rattle.reql_plan_driver.proofs.Same.{same_found}
use Rattle.reql_plan_driver.proofs.following.on_time.Goals as goal

pub returns-clause-steps : goal.returns-clause-steps
returns-clause-steps g c = λ some desk dice.
    clock_step (g.P.Planning.talk c.args.planner.now) some desk _ _ dice _ _ c.args.met.now c.tell-moment.result c.next.result c.leads_to.result c.requires.asks c.tell-moment.ensures c.next.ensures.heard c.next.ensures.goes c.leads_to.ensures

pub returns-clause-request : goal.returns-clause-request
returns-clause-request g c = same_found (g.P.Planner.state c.args.course.now) (g.P.Planner.state c.next.new.course) _ c.next.ensures.heard
