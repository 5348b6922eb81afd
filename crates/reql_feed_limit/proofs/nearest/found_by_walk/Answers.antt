use Rattle.std.proofs.Common.{option_map}
use Rattle.reql_datum.specs.View.{plain}
use Rattle.reql_feed_limit.proofs.Walk.{walk_begin, walk_step, walk_falls}
use Rattle.reql_feed_limit.specs.Seen.{seen}
use Rattle.reql_feed_limit.specs.Order.{spot_of}
use Rattle.reql_table.specs.Seen.{documents_of}
use Rattle.reql_term.specs.Views.{index_of}
use Rattle.reql_feed_limit.proofs.nearest.found_by_walk.Goals as goal

pub loop-found-init : goal.loop-found-init
loop-found-init g c =
    walk_begin c.args.descending (plain c.args.pair.now) (spot_of (option_map index_of c.args.index.now)) (documents_of c.args.after.now) _ (c.prev_pair-found.ensures.found)

pub loop-found-preserved : goal.loop-found-preserved
loop-found-preserved g c =
    let before = rw c.in-Some.is at c.loop-found.invariant in
    rw c.in_ok-best.ensures
    (walk_step c.args.descending (plain c.args.pair.now) (spot_of (option_map index_of c.args.index.now)) (documents_of c.args.after.now) c.has_tree-there.ensures.rising (plain c.in-Some.key.now, plain c.in-Some.doc.now) (option_map seen c.loop-found.best) before _
    (c.prev_pair-found-in-Some.ensures.found))

pub loop-found-smaller : goal.loop-found-smaller
loop-found-smaller g c =
    let before = rw c.in-Some.is at c.loop-found.invariant in
    rw c.in-Some.is
    (walk_falls c.args.descending (plain c.args.pair.now) (spot_of (option_map index_of c.args.index.now)) (documents_of c.args.after.now) c.has_tree-there.ensures.rising (plain c.in-Some.key.now, plain c.in-Some.doc.now) (option_map seen c.loop-found.best) before _
    (c.prev_pair-found-in-Some.ensures.found))
