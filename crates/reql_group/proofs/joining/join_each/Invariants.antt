use Rattle.std.proofs.Common.{◌≡◌, ◌++◌, drop, map, Ok}
use Rattle.reql_datum.specs.Answer.{Answer, ◌>>=◌}
use Rattle.reql_datum.specs.Called.{MeansTwo}
use Rattle.reql_datum.specs.Plain.{Plain}
use Rattle.reql_datum.specs.View.{plain}
use Rattle.reql_rules.specs.Joining.{join_all}
use Rattle.reql_group.proofs.joining.join_each.Given as goal

abbrev pub invariant-loop-left : goal.invariant-loop-left
invariant-loop-left g l =
    (m : Plain → Plain → Answer Plain) → MeansTwo g.G.Fn l.f m
    → join_all l.outer m (map plain l.lefts) (map plain l.rights) ≡ (join_all l.outer m (map plain (drop l.left-index l.lefts)) (map plain l.rights) >>= λ js. Ok (l.pairs ++ js))
