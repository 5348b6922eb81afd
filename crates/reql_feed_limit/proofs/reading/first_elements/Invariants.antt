use Rattle.std.proofs.Common.{◌≤◌, ◌-◌, length, map, option_map, vec_capacity}
use Rattle.reql_feed_limit.specs.Bounded.{bounds_of}
use Rattle.reql_feed_limit.specs.Feed.{limit_at}
use Rattle.reql_feed_limit.specs.Opening.{Opened}
use Rattle.reql_feed_limit.specs.Seen.{order_of, seen}
use Rattle.reql_table.specs.Seen.{documents_of}
use Rattle.reql_feed_limit.proofs.reading.first_elements.Given as goal

abbrev pub invariant-loop-next : goal.invariant-loop-next
invariant-loop-next g l =
    Opened (limit_at (order_of l.order) (bounds_of l.bounds)) (documents_of l.table) (map seen l.held.items) (option_map seen l.next)
    × (l.order.most ≤ vec_capacity l.held)

abbrev pub decreases-loop-next : goal.decreases-loop-next
decreases-loop-next g l = l.order.most - length l.held.items
