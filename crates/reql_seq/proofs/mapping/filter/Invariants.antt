use Rattle.std.proofs.Common.{◌≡◌, ◌++◌, ◌-◌, length, drop, Ok}
use Rattle.reql_datum.specs.Answer.{Answer, ◌>>=◌}
use Rattle.reql_datum.specs.Called.{Means}
use Rattle.reql_datum.specs.Plain.{Plain}
use Rattle.reql_rules.specs.Mapping.{filter_all}
use Rattle.reql_seq.proofs.mapping.filter.Given as goal

abbrev pub invariant-loop-item : goal.invariant-loop-item
invariant-loop-item g l =
    (m : Plain → Answer Plain) → Means g.F.Fn l.f m → filter_all l.missing m l.list ≡ (filter_all l.missing m (drop l.place l.list) >>= λ vs. Ok (l.kept ++ vs))

abbrev pub decreases-loop-item : goal.decreases-loop-item
decreases-loop-item g l = length l.list - l.place
