use Rattle.std.proofs.Common.{ap, ◌∙◌}
use Rattle.reql_feed_limit.specs.Feed.{limit_at}
use Rattle.reql_feed_limit.specs.Seen.{order_of}
use Rattle.reql_feed_limit.specs.Selection as sel
use Rattle.reql_feed_limit.proofs.Bridge.{its_pairs}
use Rattle.reql_feed_limit.proofs.Filed.{value_is}
use Rattle.reql_table.specs.Seen.{documents_of}
use Rattle.reql_feed_limit.proofs.feed.LimitFeed.open.Goals as goal

pub first_elements-requires : goal.first_elements-requires
first_elements-requires g c = record {
  there = c.tree_of-tree.ensures.there;
  indexed = its_pairs c.tree_of-tree.result (order_of c.args.order) c.args.table.now c.requires.single c.tree_of-tree.ensures.own c.tree_of-tree.ensures.rising c.tree_of-tree.ensures.there;
}

pub returns-clause-shows : goal.returns-clause-shows
returns-clause-shows g c =
    c.in_ok-held.ensures.items
    ∙ ap (λ r. sel.value (limit_at (order_of c.args.order) r) (documents_of c.args.table.now)) c.in_ok-bounds.ensures
    ∙ value_is (order_of c.args.order) c.requires.single (documents_of c.args.table.now) c.tree_of-tree.ensures.rising
