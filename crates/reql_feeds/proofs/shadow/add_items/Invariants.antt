use Rattle.std.proofs.Common.{◌≡◌, ◌++◌}
use Rattle.std.specs.Vec.Iter.{into_iter_items}
use Rattle.reql_feeds.specs.Told.{stamped}
use Rattle.reql_feeds.proofs.shadow.add_items.Given as goal

abbrev pub invariant-loop-item : goal.invariant-loop-item
invariant-loop-item l = l.items.items ++ stamped l.stamp (into_iter_items l.item-iterator) ≡ l.initial.items.items ++ stamped l.stamp (into_iter_items l.initial.item-iterator)
