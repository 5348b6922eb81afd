use Rattle.std.proofs.Common.{length}
use Rattle.reql_hall.specs.Rooms.{Sits}
use Rattle.reql_desk_moves.specs.Acting.{AreThere}
use Rattle.reql_plan_driver.specs.Walking.{IsSame, tools}
use Rattle.reql_plan_driver.proofs.Leading.{FollowedTo}
use Rattle.reql_plan_driver.proofs.following.follow.Given as goal

abbrev pub invariant-loop : goal.invariant-loop
invariant-loop g l = Sits l.hall l.desk
    × FollowedTo (g.P.Planning.talk l.planner) g.C.Engine.some_state (tools l.initial.desk (g.T.Clock.told l.initial.clock) (g.D.Dice.told l.initial.dice)) (tools l.desk (g.T.Clock.told l.clock) (g.D.Dice.told l.dice)) (g.P.Planner.state l.initial.course) (g.P.Planner.state l.course) l.initial.met l.met l.next
    × (AreThere (length l.hall.slots) l.initial.met.opened.items → AreThere (length l.hall.slots) l.met.opened.items)
    × IsSame (g.P.Planner.state l.initial.course) (g.P.Planner.state l.course)
