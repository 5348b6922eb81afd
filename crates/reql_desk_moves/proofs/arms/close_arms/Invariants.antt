use Rattle.std.proofs.Common.{◌≡◌, Option, ℕ, drop}
use Rattle.reql_hall.specs.Rooms.{Sits}
use Rattle.reql_session_spec.specs.Requests.{Answer}
use Rattle.reql_session_spec.specs.Books.{Books, closed}
use Rattle.reql_session_spec.specs.Tasks.{Talk, Settled, close}
use Rattle.reql_session_api.specs.Meant.{arms_of}
use Rattle.reql_desk_moves.specs.Steps.{Steps}
use Rattle.reql_desk_moves.proofs.arms.close_arms.Given as goal

abbrev pub invariant-loop-at : goal.invariant-loop-at
invariant-loop-at g l = Sits l.hall l.desk × ((k : Talk g.row.P-Plan.Denot) (b : Books) (token : ℕ) (a : Option Answer) → closed token b ≡ b →
    Steps k g.C.Engine.some_state l.initial.desk l.desk (close b token (arms_of (drop l.from l.arms)) Settled a) (close b token (arms_of (drop l.at l.arms)) Settled a))
