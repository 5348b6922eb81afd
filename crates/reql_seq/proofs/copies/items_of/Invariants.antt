use Rattle.std.proofs.Common.{◌≡◌, map, take}
use Rattle.reql_datum.specs.View.{plain}
use Rattle.reql_seq.proofs.copies.items_of.Given as goal

abbrev pub invariant-loop-d : goal.invariant-loop-d
invariant-loop-d l = l.items ≡ map plain (take l.d-index l.slice)
