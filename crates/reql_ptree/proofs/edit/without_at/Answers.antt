use Rattle.reql_datum.specs.Order.{order}
use Rattle.reql_datum.specs.Total.{order_total}
use Rattle.reql_memory.proofs.Held.{held_remove}
use Rattle.reql_ptree.specs.Chunk.{pair}
use Rattle.reql_ptree.proofs.edit.without_at.Goals as goal

pub returns-clause-pairs : goal.returns-clause-pairs
returns-clause-pairs c = λ k hit.
    rw (c.remove.ensures.items, c.in_ok-rest.ensures) (held_remove order order_total pair c.args.pairs.now k c.args.place hit)
