use Rattle.std.proofs.Common.{◌≡◌, ◌++◌, drop, map, Ok}
use Rattle.reql_datum.specs.Answer.{Answer, ◌>>=◌}
use Rattle.reql_datum.specs.Called.{Means}
use Rattle.reql_datum.specs.Plain.{Plain}
use Rattle.reql_datum.specs.View.{plain}
use Rattle.reql_rules.specs.Grouping.{with_group}
use Rattle.reql_rules.specs.Lists.{each}
use Rattle.reql_group.specs.Seen.{pair_seen}
use Rattle.reql_group.proofs.gathering.paired.Given as goal

abbrev pub invariant-loop-item : goal.invariant-loop-item
invariant-loop-item g l =
    (m : Plain → Answer Plain) → Means g.F.Fn l.f m
    → each (with_group m) (map plain l.list) ≡ (each (with_group m) (map plain (drop l.item-index l.list)) >>= λ ps. Ok (map pair_seen l.pairs.items ++ ps))
