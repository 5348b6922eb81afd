use Rattle.std.proofs.Common.{◌≡◌, length}
use Rattle.std.specs.Vec.Iter.{into_iter_items}
use Rattle.reql_queue.specs.Queued.{IsRoomFor}
use Rattle.reql_queue.specs.Record.{all_pushed}
use Rattle.reql_feeds.specs.Told.{stamped}
use Rattle.reql_feeds.proofs.telling.queue_items.Given as goal

abbrev pub invariant-loop-item : goal.invariant-loop-item
invariant-loop-item l =
    IsRoomFor (length (into_iter_items l.item-iterator)) l.queue
    × (all_pushed (stamped l.stamp (into_iter_items l.item-iterator)) l.queue ≡ all_pushed (stamped l.stamp (into_iter_items l.initial.item-iterator)) l.initial.queue)
