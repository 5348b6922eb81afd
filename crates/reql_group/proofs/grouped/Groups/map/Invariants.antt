use Rattle.std.proofs.Common.{◌≡◌, ◌++◌, ◌-◌, drop, length, Ok}
use Rattle.std.specs.Map.{keys_of}
use Rattle.reql_datum.specs.Answer.{Answer, ◌>>=◌}
use Rattle.reql_datum.specs.Called.{Means}
use Rattle.reql_datum.specs.Plain.{Plain}
use Rattle.reql_rules.specs.Lists.{each}
use Rattle.reql_group.specs.Reduced.{with_datum}
use Rattle.reql_group.proofs.grouped.Groups.map.Given as goal

abbrev pub invariant-loop-group : goal.invariant-loop-group
invariant-loop-group g l =
    (keys_of l.groups ++ keys_of (drop l.place l.self) ≡ keys_of l.self)
    × ((m : Plain → Answer Plain) → Means g.F.Fn l.f m → each (with_datum m) l.self ≡ (each (with_datum m) (drop l.place l.self) >>= λ hs. Ok (l.groups ++ hs)))

abbrev pub decreases-loop-group : goal.decreases-loop-group
decreases-loop-group g l = length l.self - l.place
