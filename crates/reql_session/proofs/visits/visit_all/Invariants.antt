use Rattle.std.proofs.Common.{◌≡◌, ℕ, ℤ, List, length, drop, ◌-◌}
use Rattle.reql_outside.specs.Source.{Source}
use Rattle.reql_hall.specs.Rooms.{Sits}
use Rattle.reql_session_spec.specs.Tasks.{Talk}
use Rattle.reql_open_cursors.specs.Kept.{books_of}
use Rattle.reql_session.specs.Keeping.{Keeps}
use Rattle.reql_session.specs.Settling.{working}
use Rattle.reql_session.proofs.Visited.{VisitedTo}
use Rattle.reql_session.proofs.visits.visit_all.Given as goal

abbrev pub invariant-loop-token : goal.invariant-loop-token
invariant-loop-token g l = Sits l.hall l.desk × Keeps (length l.hall.slots) (drop l.place l.tokens) (books_of l.shelf)
    × ((k : Talk g.row.P-Plan.Denot) (clock : Source ℤ) (dice : Source (List ℕ)) → k.limits ≡ l.limits →
    VisitedTo k (g.L.Link.tape l.initial.link) (working g.C.Engine.some_state l.initial.desk (books_of l.initial.shelf) clock dice) (g.L.Link.tape l.link) (working g.C.Engine.some_state l.desk (books_of l.shelf) clock dice) l.tokens (drop l.place l.tokens))

abbrev pub decreases-loop-token : goal.decreases-loop-token
decreases-loop-token g l = length l.tokens - l.place
