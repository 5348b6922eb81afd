use Rattle.std.proofs.Common.{map, List, ap, ◌∙◌, option_map, arith}
use Rattle.std.proofs.lemmas.List.{length-map}
use Rattle.reql_datum.specs.Plain.{Plain}
use Rattle.reql_datum.specs.View.{plain}
use Rattle.reql_feed_limit.specs.Bounds.{in_bounds}
use Rattle.reql_feed_limit.specs.Boundary.{kept_element, neighbour}
use Rattle.reql_feed_limit.specs.Opening.{begin_in}
use Rattle.reql_feed_limit.specs.Selection.{Limit, facing, turned}
use Rattle.reql_feed_limit.proofs.Opening.{opened_from, opened_step, opened_full, opened_end}
use Rattle.reql_feed_limit.proofs.Next.{bounds_convex}
use Rattle.reql_feed_limit.specs.Bounded.{bounds_of}
use Rattle.reql_feed_limit.specs.Feed.{limit_at}
use Rattle.reql_feed_limit.specs.Order.{spot_of}
use Rattle.reql_feed_limit.specs.Seen.{order_of, seen}
use Rattle.reql_table.specs.Seen.{documents_of}
use Rattle.reql_feed_limit.proofs.Places.{seen_push}
use Rattle.reql_feed_limit.proofs.reading.first_elements.Goals as goal

pub loop-next-init : goal.loop-next-init
loop-next-init g c =
    rw c.in_ok-held.ensures.items (
      opened_from (spot_of (order_of c.args.order.now).index) (bounds_of c.args.bounds.now) c.args.order.now.down c.args.order.now.most (documents_of c.args.table.now) (option_map seen c.within-next.result)
          (c.within-next.ensures ∙ ap (kept_element (in_bounds (bounds_of c.args.bounds.now))) (c.in_ok-begin_in_tree.ensures.found ∙ ap (λ t. begin_in c.args.order.now.down (bounds_of c.args.bounds.now) (turned c.args.order.now.down t)) c.requires.indexed)),
      c.in_ok-held.ensures.room,
    )

pub returns-in-None-clause-items : goal.returns-in-None-clause-items
returns-in-None-clause-items g c =
    let l : Limit = limit_at (order_of c.args.order.now) (bounds_of c.args.bounds.now) in
    let docs : List (Plain × Plain) = documents_of c.args.table.now in
    opened_end l docs (map seen c.loop-next.held.items) (rw c.in-None.is at c.loop-next.invariant.0)

pub returns-clause-items : goal.returns-clause-items
returns-clause-items g c =
    let l : Limit = limit_at (order_of c.args.order.now) (bounds_of c.args.bounds.now) in
    let docs : List (Plain × Plain) = documents_of c.args.table.now in
    opened_full l docs (map seen c.loop-next.held.items) (option_map seen c.loop-next.next) c.loop-next.invariant.0 (omega (arith, length-map c.loop-next.held.items seen, c.len.ensures))

pub loop-next-preserved : goal.loop-next-preserved
loop-next-preserved g c =
    let l : Limit = limit_at (order_of c.args.order.now) (bounds_of c.args.bounds.now) in
    let docs : List (Plain × Plain) = documents_of c.args.table.now in
    let before = rw c.in-Some.is at c.loop-next.invariant.0 in (
      rw (c.in_ok-add-in-Some.ensures.items, seen_push c.loop-next.held.items c.in-Some.element)
          (opened_step l docs (bounds_convex (bounds_of c.args.bounds.now)) (map seen c.loop-next.held.items) (seen c.in-Some.element) (option_map seen c.in_ok-next-in-Some.next) before (omega (arith, length-map c.loop-next.held.items seen, c.len.ensures))
          (c.in_ok-next-in-Some.ensures ∙ ap (λ t. kept_element (in_bounds (bounds_of c.args.bounds.now)) (neighbour (facing c.args.order.now.down) (plain c.in-Some.element.pair) (turned c.args.order.now.down t))) c.requires.indexed)),
      omega (arith, c.loop-next.invariant.1, c.in_ok-add-in-Some.ensures.capacity),
    )
