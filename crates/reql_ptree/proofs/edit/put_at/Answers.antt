use Rattle.reql_datum.specs.Order.{order}
use Rattle.reql_datum.specs.Total.{order_total}
use Rattle.reql_memory.proofs.Held.{held_insert}
use Rattle.reql_ptree.specs.Chunk.{pair}
use Rattle.reql_ptree.proofs.edit.put_at.Goals as goal

pub returns-in-Ok-insert-clause-pairs : goal.returns-in-Ok-insert-clause-pairs
returns-in-Ok-insert-clause-pairs c =
    let gap = rw c.in-Err.is at c.requires.gap in
    rw (c.in-Ok-insert.ensures.items, c.in_ok-all.ensures, c.in_ok-key-in-Err.ensures, c.in_ok-value.ensures)
    (held_insert order order_total pair c.args.pairs.now c.in-Err.place (record { key = c.args.key.now; value = c.args.value.now }) gap)
