use Rattle.std.proofs.Common.{◌≡◌, ◌-◌, ◌++◌, length, map, drop}
use Rattle.reql_datum.specs.Plain.{Plain}
use Rattle.reql_feed_spec.specs.Net.{keyed}
use Rattle.reql_feed_spec.specs.Shown.{read}
use Rattle.reql_squash.proofs.joining.inners_of.Given as goal

abbrev pub invariant-loop-item : goal.invariant-loop-item
invariant-loop-item l = map read l.inners ++ map (λ (i : Plain). (keyed i).1) (drop l.place l.items) ≡ map (λ (i : Plain). (keyed i).1) l.items

abbrev pub decreases-loop-item : goal.decreases-loop-item
decreases-loop-item l = length l.items - l.place
