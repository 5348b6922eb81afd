use Rattle.std.proofs.Common.{◌≡◌, ◌-◌, ◌++◌, length, drop}
use Rattle.reql_squash.specs.Told.{sides_of}
use Rattle.reql_squash.proofs.heard.sides.Given as goal

abbrev pub invariant-loop-item : goal.invariant-loop-item
invariant-loop-item l = l.sides ++ sides_of l.name (drop l.place l.items) ≡ sides_of l.name l.items

abbrev pub decreases-loop-item : goal.decreases-loop-item
decreases-loop-item l = length l.items - l.place
