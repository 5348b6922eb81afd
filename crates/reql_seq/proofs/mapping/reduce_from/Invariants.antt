use Rattle.std.proofs.Common.{◌≡◌, ◌-◌, length, drop}
use Rattle.reql_datum.specs.Answer.{Answer}
use Rattle.reql_datum.specs.Called.{MeansTwo}
use Rattle.reql_datum.specs.Plain.{Plain}
use Rattle.reql_datum.specs.View.{plain}
use Rattle.reql_rules.specs.Mapping.{reduce_from}
use Rattle.reql_seq.proofs.mapping.reduce_from.Given as goal

abbrev pub invariant-loop-item : goal.invariant-loop-item
invariant-loop-item g l =
    (m : Plain → Plain → Answer Plain) → MeansTwo g.G.Fn l.f m → reduce_from m (plain l.fn.first) (drop 1 l.list) ≡ reduce_from m (plain l.reduced) (drop l.place l.list)

abbrev pub decreases-loop-item : goal.decreases-loop-item
decreases-loop-item g l = length l.list - l.place
