use Rattle.std.proofs.Common.{◌≡◌, ◌<◌, ◌^◌, ◌-◌, ◌++◌, length, drop}
use Rattle.reql_catalog.specs.Catalog.{slots_from, slots_of}
use Rattle.reql_catalog.proofs.saying.slots_of.Given as goal

abbrev pub invariant-loop-slot : goal.invariant-loop-slot
invariant-loop-slot l = record {
  found : l.found ++ slots_from l.place l.db (drop l.place l.slots) ≡ slots_of l.db l.slots;
  fits : length l.slots < 2 ^ 32;
}

abbrev pub decreases-loop-slot : goal.decreases-loop-slot
decreases-loop-slot l = length l.slots - l.place
