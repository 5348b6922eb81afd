use Rattle.std.proofs.Common.{drop}
use Rattle.reql_hall.specs.Rooms.{Sits}
use Rattle.reql_session_spec.specs.Tasks.{Talk}
use Rattle.reql_session_api.specs.Meant.{arms_of}
use Rattle.reql_desk_moves.proofs.Closings.{Left}
use Rattle.reql_desk_moves.proofs.arms.leave_arms.Given as goal

abbrev pub invariant-loop-at : goal.invariant-loop-at
invariant-loop-at g l = Sits l.hall l.desk × ((k : Talk g.row.P-Plan.Denot) → Left k g.C.Engine.some_state l.initial.desk l.desk (arms_of l.arms) (arms_of (drop l.at l.arms)))
