use Rattle.std.proofs.Common.{◌≡◌, ◌++◌, ◌-◌, length, drop, Ok}
use Rattle.reql_datum.specs.Answer.{Answer, ◌>>=◌}
use Rattle.reql_datum.specs.Called.{Means}
use Rattle.reql_datum.specs.Plain.{Plain, weight, list_weight}
use Rattle.reql_datum.specs.View.{plain}
use Rattle.reql_rules.specs.Fields.{on_each}
use Rattle.reql_apply_path.proofs.elements.+each.Given as goal

abbrev pub decreases-on_objects : goal.decreases-on_objects
decreases-on_objects g l = weight (plain l.d.now)

abbrev pub decreases-on_each : goal.decreases-on_each
decreases-on_each g l = list_weight l.items.now

abbrev pub invariant-on_each-loop-item : goal.invariant-on_each-loop-item
invariant-on_each-loop-item g l = (m : Plain → Answer Plain) → Means g.F.Fn l.f m → on_each m l.items ≡ (on_each m (drop l.place l.items) >>= λ vs. Ok (l.answers ++ vs))

abbrev pub decreases-on_each-loop-item : goal.decreases-on_each-loop-item
decreases-on_each-loop-item g l = length l.items - l.place
