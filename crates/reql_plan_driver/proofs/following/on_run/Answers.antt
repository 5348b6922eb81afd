use Rattle.reql_table_spec.specs.Replies.{told_of}
use Rattle.reql_plan_driver.proofs.Leading.{run_step, run_refused}
use Rattle.reql_plan_driver.proofs.Same.{same_found}
use Rattle.reql_plan_driver.proofs.following.on_run.Goals as goal

pub returns-in-Ok-clause-steps : goal.returns-in-Ok-clause-steps
returns-in-Ok-clause-steps g c = λ clock dice.
    run_step (g.P.Planning.talk c.args.planner.now) g.C.Engine.some_state _ _ clock dice _ _ c.args.met.now c.run_slot.new.met c.args.slot c.args.order (told_of c.in-Ok.reply) c.in-Ok.reply.saved c.next.result c.leads_to.result c.requires.asks c.in-Ok.ensures.ran.0 c.in-Ok.ensures.ran.1 c.next.ensures.heard c.next.ensures.goes c.leads_to.ensures

pub returns-in-Err-clause-steps : goal.returns-in-Err-clause-steps
returns-in-Err-clause-steps g c = λ clock dice.
    run_refused (g.P.Planning.talk c.args.planner.now) g.C.Engine.some_state _ _ clock dice _ c.args.met.now c.run_slot.new.met c.args.slot c.args.order c.requires.asks c.in-Err.ensures.ran

pub returns-in-Ok-clause-request : goal.returns-in-Ok-clause-request
returns-in-Ok-clause-request g c = same_found (g.P.Planner.state c.args.course.now) (g.P.Planner.state c.next.new.course) _ c.next.ensures.heard
