use Rattle.std.proofs.Common.{◌≡◌, ◌≤◌, Some, length}
use Rattle.std.specs.Prelude.{vec_capacity}
use Rattle.reql_hall.specs.Rooms.{Sits}
use Rattle.reql_session_spec.specs.Books.{Books, Open, feed_of}
use Rattle.reql_session_spec.specs.Tasks.{Talk}
use Rattle.reql_session_api.specs.Meant.{arms_of}
use Rattle.reql_desk_moves.proofs.Visits.{VisitAt}
use Rattle.reql_desk_moves.proofs.taking.visit_arms.Given as goal

abbrev pub invariant-loop-at : goal.invariant-loop-at
invariant-loop-at g l = Sits l.hall l.desk × (length l.points.items ≡ l.at) × (length l.arms ≤ vec_capacity l.points)
    × ((k : Talk g.row.P-Plan.Denot) (b : Books) (f : Open) → feed_of f.token b.feeds ≡ Some f → f.arms ≡ arms_of l.arms → f.batch ≡ l.batch → VisitAt k g.C.Engine.some_state l.initial.desk l.desk b f l.arms l.at l.points.items)
