use Rattle.std.proofs.Common.{◌≡◌, ◌-◌, Ok, None, length, drop}
use Rattle.reql_datum.specs.Answer.{Answer}
use Rattle.reql_datum.specs.Called.{Means}
use Rattle.reql_datum.specs.Plain.{Plain}
use Rattle.reql_rules.specs.Totals.{over_values, better}
use Rattle.reql_seq.specs.Seen.{best_seen, beats}
use Rattle.reql_seq.proofs.totals.best.Given as goal

abbrev pub invariant-loop-item : goal.invariant-loop-item
invariant-loop-item g l =
    (m : Plain → Answer Plain) → Means g.F.Fn l.f m
    → over_values (λ b k v. Ok (better (beats l.end) b k v)) m None l.list ≡ over_values (λ b k v. Ok (better (beats l.end) b k v)) m (best_seen l.best) (drop l.place l.list)

abbrev pub decreases-loop-item : goal.decreases-loop-item
decreases-loop-item g l = length l.list - l.place
