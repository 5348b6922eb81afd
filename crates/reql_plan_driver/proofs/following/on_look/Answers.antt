use Rattle.reql_plan_driver.proofs.Being.{there_same}
use Rattle.reql_plan_driver.proofs.Leading.{seen_step, look_refused}
use Rattle.reql_plan_driver.proofs.Same.{same_found}
use Rattle.reql_plan_driver.proofs.following.on_look.Goals as goal

pub returns-in-Ok-clause-steps : goal.returns-in-Ok-clause-steps
returns-in-Ok-clause-steps g c = λ clock dice.
    seen_step (g.P.Planning.talk c.args.planner.now) g.C.Engine.some_state _ _ g.C.Engine.heard g.met.C.TableEngine.shows _ _ clock dice _ _ c.args.met.now c.look_slot.new.met c.args.slot c.in-Ok.look c.next.result c.leads_to.result c.requires.asks c.in-Ok.ensures.looked c.next.ensures.heard c.next.ensures.goes c.leads_to.ensures

pub returns-in-Err-clause-steps : goal.returns-in-Err-clause-steps
returns-in-Err-clause-steps g c = λ clock dice.
    look_refused (g.P.Planning.talk c.args.planner.now) g.C.Engine.some_state _ _ clock dice _ c.args.met.now c.look_slot.new.met c.args.slot c.requires.asks c.in-Err.ensures.looked

pub returns-in-Ok-clause-there : goal.returns-in-Ok-clause-there
returns-in-Ok-clause-there g c = there_same _ _ _ c.look_slot.ensures.opened

pub returns-in-Err-clause-there : goal.returns-in-Err-clause-there
returns-in-Err-clause-there g c = there_same _ _ _ c.look_slot.ensures.opened

pub returns-in-Ok-clause-request : goal.returns-in-Ok-clause-request
returns-in-Ok-clause-request g c = same_found (g.P.Planner.state c.args.course.now) (g.P.Planner.state c.next.new.course) _ c.next.ensures.heard
