use Rattle.std.proofs.Common.{◌≡◌, ◌++◌, drop, map}
use Rattle.reql_tally.specs.Views.{stamped}
use Rattle.reql_tally.proofs.hearing.add_items.Given as goal

abbrev pub invariant-loop-item : goal.invariant-loop-item
invariant-loop-item l = map stamped l.list.items ++ map stamped (drop l.item-index l.items) ≡ map stamped l.fn.list.items ++ map stamped l.items
