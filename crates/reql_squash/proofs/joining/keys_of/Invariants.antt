use Rattle.std.proofs.Common.{◌≡◌, ◌-◌, ◌++◌, length, map, drop}
use Rattle.reql_datum.specs.Plain.{Plain}
use Rattle.reql_feed_spec.specs.Net.{keyed}
use Rattle.reql_squash.proofs.joining.keys_of.Given as goal

abbrev pub invariant-loop-item : goal.invariant-loop-item
invariant-loop-item l = l.keys ++ map (λ (i : Plain). (keyed i).0) (drop l.place l.items) ≡ map (λ (i : Plain). (keyed i).0) l.items

abbrev pub decreases-loop-item : goal.decreases-loop-item
decreases-loop-item l = length l.items - l.place
