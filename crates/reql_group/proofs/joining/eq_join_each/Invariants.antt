use Rattle.std.proofs.Common.{◌≡◌, ◌++◌, List, drop, map, Ok}
use Rattle.reql_datum.specs.Answer.{Answer, ◌>>=◌}
use Rattle.reql_datum.specs.Called.{Means}
use Rattle.reql_datum.specs.Plain.{Plain}
use Rattle.reql_datum.specs.View.{plain}
use Rattle.reql_rules.specs.Joining.{eq_join_all}
use Rattle.reql_group.specs.Called.{MeansRows}
use Rattle.reql_group.proofs.joining.eq_join_each.Given as goal

abbrev pub invariant-loop-left : goal.invariant-loop-left
invariant-loop-left g l =
    (m : Plain → Answer Plain) → Means g.F.Fn l.key m → (h : Plain → List Plain) → MeansRows g.G.Fn l.having h
    → eq_join_all m h (map plain l.list) ≡ (eq_join_all m h (map plain (drop l.left-index l.list)) >>= λ js. Ok (l.pairs ++ js))
