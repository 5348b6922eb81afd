use Rattle.reql_plan_driver.proofs.Leading.{dice_step}
use Rattle.reql_plan_driver.proofs.Same.{same_found}
use Rattle.reql_plan_driver.proofs.following.on_roll.Goals as goal

pub returns-clause-steps : goal.returns-clause-steps
returns-clause-steps g c = λ some desk clock.
    dice_step (g.P.Planning.talk c.args.planner.now) some desk clock _ _ _ _ c.args.met.now c.roll-bytes.result c.next.result c.leads_to.result c.requires.asks c.roll-bytes.ensures c.next.ensures.heard c.next.ensures.goes c.leads_to.ensures

pub returns-clause-request : goal.returns-clause-request
returns-clause-request g c = same_found (g.P.Planner.state c.args.course.now) (g.P.Planner.state c.next.new.course) _ c.next.ensures.heard
