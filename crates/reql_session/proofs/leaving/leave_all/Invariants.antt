use Rattle.reql_hall.specs.Rooms.{Sits}
use Rattle.reql_session_spec.specs.Tasks.{Talk}
use Rattle.reql_session.proofs.Left.{Left, arms_from}
use Rattle.reql_session.proofs.leaving.leave_all.Given as goal

abbrev pub invariant-loop-at : goal.invariant-loop-at
invariant-loop-at g l = Sits l.hall l.desk × ((k : Talk g.row.P-Plan.Denot) → Left k g.C.Engine.some_state l.initial.desk l.desk (arms_from 0 l.feeds) (arms_from l.at l.feeds))
