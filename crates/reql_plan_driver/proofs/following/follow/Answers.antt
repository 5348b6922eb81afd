use Rattle.std.proofs.Common.{refl}
use Rattle.reql_plan_driver.specs.Walking.{tools}
use Rattle.reql_plan_driver.specs.declared.following.Reached.TheVariants as reached
use Rattle.reql_plan_driver.proofs.Leading.{follow_begun, follows_from, follow_on, follow_ends, follow_denied, follow_given_up, follow_unbegun}
use Rattle.reql_plan_driver.proofs.Same.{same_as, same_on}
use Rattle.reql_plan_driver.proofs.following.follow.Goals as goal

pub returns-in_default-clause-follows : goal.returns-in_default-clause-follows
returns-in_default-clause-follows g c = follow_unbegun (g.P.Planning.talk c.args.planner.now) g.C.Engine.some_state (tools c.args.desk.now (g.T.Clock.told c.args.clock.now) (g.D.Dice.told c.args.dice.now)) (g.P.Planner.state c.args.course.now) (g.P.Planner.state c.first.new.course) c.args.met.now c.first.ensures.same

pub loop-init : goal.loop-init
loop-init g c = (c.requires.of_this_hall, follow_begun (g.P.Planning.talk c.args.planner.now) g.C.Engine.some_state (tools c.args.desk.now (g.T.Clock.told c.args.clock.now) (g.D.Dice.told c.args.dice.now)) (g.P.Planner.state c.args.course.now) (g.P.Planner.state c.first.new.course) c.args.met.now c.in-Ok.next c.first.ensures.same c.in-Ok.ensures.goes c.requires.first c.requires.points, λ h. h, same_as (g.P.Planner.state c.first.new.course) (g.P.Planner.state c.first.new.course) refl)

pub loop-preserved : goal.loop-preserved
loop-preserved g c = (c.step.ensures.of_this_hall, follow_on (g.P.Planning.talk c.args.planner.now) g.C.Engine.some_state (tools c.args.desk.now (g.T.Clock.told c.args.clock.now) (g.D.Dice.told c.args.dice.now)) (tools c.loop.desk (g.T.Clock.told c.loop.clock) (g.D.Dice.told c.loop.dice)) (tools c.step.new.desk (g.T.Clock.told c.step.new.clock) (g.D.Dice.told c.step.new.dice)) (g.P.Planner.state c.first.new.course) (g.P.Planner.state c.loop.course) (g.P.Planner.state c.step.new.course) c.args.met.now c.loop.met c.step.new.met c.loop.next c.in-On.later c.loop.invariant.1 c.in-On.ensures.steps, λ h. c.step.ensures.there (c.loop.invariant.2 h), same_on (g.P.Planner.state c.first.new.course) (g.P.Planner.state c.loop.course) (g.P.Planner.state c.step.new.course) c.loop.invariant.3 c.step.ensures.request)

pub returns-in-Ends-clause-follows : goal.returns-in-Ends-clause-follows
returns-in-Ends-clause-follows g c =
    follows_from (g.P.Planning.talk c.args.planner.now) g.C.Engine.some_state (tools c.args.desk.now (g.T.Clock.told c.args.clock.now) (g.D.Dice.told c.args.dice.now)) (tools c.step.new.desk (g.T.Clock.told c.step.new.clock) (g.D.Dice.told c.step.new.dice)) (g.P.Planner.state c.args.course.now) (g.P.Planner.state c.first.new.course) (g.P.Planner.state c.step.new.course) c.args.met.now c.step.new.met (reached.Ends c.in-Ends.answered) c.first.ensures.same
    (follow_ends (g.P.Planning.talk c.args.planner.now) g.C.Engine.some_state (tools c.args.desk.now (g.T.Clock.told c.args.clock.now) (g.D.Dice.told c.args.dice.now)) (tools c.loop.desk (g.T.Clock.told c.loop.clock) (g.D.Dice.told c.loop.dice)) (tools c.step.new.desk (g.T.Clock.told c.step.new.clock) (g.D.Dice.told c.step.new.dice)) (g.P.Planner.state c.first.new.course) (g.P.Planner.state c.loop.course) (g.P.Planner.state c.step.new.course) c.args.met.now c.loop.met c.step.new.met c.loop.next c.in-Ends.answered c.loop.invariant.1 c.in-Ends.ensures.steps)

pub returns-in-Denied-clause-follows : goal.returns-in-Denied-clause-follows
returns-in-Denied-clause-follows g c =
    follows_from (g.P.Planning.talk c.args.planner.now) g.C.Engine.some_state (tools c.args.desk.now (g.T.Clock.told c.args.clock.now) (g.D.Dice.told c.args.dice.now)) (tools c.step.new.desk (g.T.Clock.told c.step.new.clock) (g.D.Dice.told c.step.new.dice)) (g.P.Planner.state c.args.course.now) (g.P.Planner.state c.first.new.course) (g.P.Planner.state c.step.new.course) c.args.met.now c.step.new.met reached.Denied c.first.ensures.same
    (follow_denied (g.P.Planning.talk c.args.planner.now) g.C.Engine.some_state (tools c.args.desk.now (g.T.Clock.told c.args.clock.now) (g.D.Dice.told c.args.dice.now)) (tools c.loop.desk (g.T.Clock.told c.loop.clock) (g.D.Dice.told c.loop.dice)) (tools c.step.new.desk (g.T.Clock.told c.step.new.clock) (g.D.Dice.told c.step.new.dice)) (g.P.Planner.state c.first.new.course) (g.P.Planner.state c.loop.course) (g.P.Planner.state c.step.new.course) c.args.met.now c.loop.met c.step.new.met c.loop.next c.loop.invariant.1 c.in-Denied.ensures.steps)

pub returns-clause-follows : goal.returns-clause-follows
returns-clause-follows g c =
    follows_from (g.P.Planning.talk c.args.planner.now) g.C.Engine.some_state (tools c.args.desk.now (g.T.Clock.told c.args.clock.now) (g.D.Dice.told c.args.dice.now)) (tools c.loop.desk (g.T.Clock.told c.loop.clock) (g.D.Dice.told c.loop.dice)) (g.P.Planner.state c.args.course.now) (g.P.Planner.state c.first.new.course) (g.P.Planner.state c.loop.course) c.args.met.now c.loop.met reached.Denied c.first.ensures.same
    (follow_given_up (g.P.Planning.talk c.args.planner.now) g.C.Engine.some_state (tools c.args.desk.now (g.T.Clock.told c.args.clock.now) (g.D.Dice.told c.args.dice.now)) (tools c.loop.desk (g.T.Clock.told c.loop.clock) (g.D.Dice.told c.loop.dice)) (g.P.Planner.state c.first.new.course) (g.P.Planner.state c.loop.course) c.args.met.now c.loop.met c.loop.next c.loop.invariant.1)

pub returns-in-Ends-clause-there : goal.returns-in-Ends-clause-there
returns-in-Ends-clause-there g c = λ h. c.step.ensures.there (c.loop.invariant.2 h)

pub returns-in-Denied-clause-there : goal.returns-in-Denied-clause-there
returns-in-Denied-clause-there g c = λ h. c.step.ensures.there (c.loop.invariant.2 h)

pub returns-in_default-clause-request : goal.returns-in_default-clause-request
returns-in_default-clause-request g c = same_as (g.P.Planner.state c.args.course.now) (g.P.Planner.state c.first.new.course) c.first.ensures.same

pub returns-in-Ends-clause-request : goal.returns-in-Ends-clause-request
returns-in-Ends-clause-request g c =
    same_on (g.P.Planner.state c.args.course.now) (g.P.Planner.state c.first.new.course) (g.P.Planner.state c.step.new.course) (same_as (g.P.Planner.state c.args.course.now) (g.P.Planner.state c.first.new.course) c.first.ensures.same)
    (same_on (g.P.Planner.state c.first.new.course) (g.P.Planner.state c.loop.course) (g.P.Planner.state c.step.new.course) c.loop.invariant.3 c.step.ensures.request)

pub returns-in-Denied-clause-request : goal.returns-in-Denied-clause-request
returns-in-Denied-clause-request g c =
    same_on (g.P.Planner.state c.args.course.now) (g.P.Planner.state c.first.new.course) (g.P.Planner.state c.step.new.course) (same_as (g.P.Planner.state c.args.course.now) (g.P.Planner.state c.first.new.course) c.first.ensures.same)
    (same_on (g.P.Planner.state c.first.new.course) (g.P.Planner.state c.loop.course) (g.P.Planner.state c.step.new.course) c.loop.invariant.3 c.step.ensures.request)

pub returns-clause-request : goal.returns-clause-request
returns-clause-request g c = same_on (g.P.Planner.state c.args.course.now) (g.P.Planner.state c.first.new.course) (g.P.Planner.state c.loop.course) (same_as (g.P.Planner.state c.args.course.now) (g.P.Planner.state c.first.new.course) c.first.ensures.same) c.loop.invariant.3
