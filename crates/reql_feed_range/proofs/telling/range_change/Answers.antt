use Rattle.std.proofs.Common.{option_map}
use Rattle.reql_datum.specs.View.{plain}
use Rattle.reql_feed_read.specs.Follows.{shape_of}
use Rattle.reql_feed_range.specs.Printed.{shows}
use Rattle.reql_feed_range.proofs.Changes.{told_pairs}
use Rattle.reql_feed_range.proofs.telling.range_change.Goals as goal

pub returns : goal.returns
returns c =
    told_pairs (shows c.args.printer.now.offsets c.args.printer.now.types) (shape_of c.args.shape.now) (plain c.args.change.now.key) _ _ _ (option_map plain c.args.change.now.old) _ (option_map plain c.args.change.now.new)
    c.in_ok-olds.olds c.in_ok-news.news c.in_ok-parted.parted.left c.in_ok-parted.parted.came c.in_ok-items.items
    c.lent.ensures c.lent-2.ensures c.key_of-key.ensures c.in_ok-olds.ensures.adds c.in_ok-news.ensures.adds c.in_ok-parted.ensures.left c.in_ok-parted.ensures.came c.in_ok-items.ensures
