use Rattle.std.proofs.Common.{◌≡◌, ◌≤◌, ◌+◌, ◌-◌, length, drop}
use Rattle.reql_datum.specs.Answer.{Answer}
use Rattle.reql_datum.specs.Called.{Means}
use Rattle.reql_datum.specs.Plain.{Plain}
use Rattle.reql_rules.specs.Totals.{over_values, summed, sum_all}
use Rattle.reql_seq.specs.Seen.{sum_seen}
use Rattle.reql_seq.proofs.totals.sum.Given as goal

abbrev pub invariant-loop-item : goal.invariant-loop-item
invariant-loop-item g l =
    (l.sum.count + length (drop l.place l.list) ≤ length l.list)
    × ((m : Plain → Answer Plain) → Means g.F.Fn l.f m → sum_all m l.list ≡ over_values summed m (sum_seen l.sum) (drop l.place l.list))

abbrev pub decreases-loop-item : goal.decreases-loop-item
decreases-loop-item g l = length l.list - l.place
