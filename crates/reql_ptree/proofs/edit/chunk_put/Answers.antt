use Rattle.reql_datum.specs.Order.{order}
use Rattle.reql_datum.specs.Total.{order_total}
use Rattle.reql_datum.specs.View.{plain}
use Rattle.reql_memory.proofs.Sorted.{rising_put}
use Rattle.reql_ptree.proofs.edit.chunk_put.Goals as goal

pub parted-requires-clause-rising : goal.parted-requires-clause-rising
parted-requires-clause-rising g c =
    rw (c.in_ok-all.ensures.pairs, c.pairs-pairs.ensures.pairs) (rising_put order order_total (plain c.args.key.now) (plain c.args.value.now) c.args.chunk.now c.pairs-pairs.ensures.chunk.rising)
