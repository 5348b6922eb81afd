use Rattle.std.proofs.Common.{◌≡◌, map, take}
use Rattle.reql_catalog.specs.Machine.{cleared}
use Rattle.reql_catalog.proofs.changing.cleared.Given as goal

abbrev pub invariant-loop-slot : goal.invariant-loop-slot
invariant-loop-slot l = l.left.items ≡ map (cleared l.db) (take l.slot-index l.slots)
