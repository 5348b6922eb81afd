use Rattle.std.proofs.Common.{◌≡◌, ℕ, ◌++◌, ◌-◌, ◌∷◌, [], Bool, length, drop, map, Ok}
use Rattle.reql_datum.specs.Answer.{Answer, ◌>>=◌}
use Rattle.reql_datum.specs.Plain.{Plain}
use Rattle.reql_rules.specs.Lists.{each}
use Rattle.reql_rules.specs.Sorting.{with_keys}
use Rattle.reql_seq.specs.Called.{MeansKeys}
use Rattle.reql_seq.specs.Seen.{ranked}
use Rattle.reql_seq.proofs.sorting.ranked_all.Given as goal

abbrev pub invariant-loop-item : goal.invariant-loop-item
invariant-loop-item g l =
    (m : ℕ → Plain → Answer Plain) (falls : Bool) → MeansKeys g.K.Fn l.key m
    → each (with_keys m (falls ∷ [])) l.list ≡ (each (with_keys m (falls ∷ [])) (drop l.place l.list) >>= λ rs. Ok (map ranked l.rows.items ++ rs))

abbrev pub decreases-loop-item : goal.decreases-loop-item
decreases-loop-item g l = length l.list - l.place
