use Rattle.std.proofs.Common.{rules}
use Rattle.reql_datum.specs.View.{plain}
use Rattle.reql_table.proofs.Counts.{fewer}
use Rattle.reql_table.proofs.slice.count.Goals as goal

pub overflow_sub-result : goal.overflow_sub-result
overflow_sub-result c =
    fewer (plain c.args.slice.now.low) (plain c.args.slice.now.high) c.args.slice.now.low_open c.args.slice.now.high_open c.args.slice.now.tree.now
    c.count_below-from.result c.count_below-to.result (search rules) c.count_below-to.ensures.found c.count_below-from.ensures.found
