use Rattle.std.proofs.Common.{refl}
use Rattle.reql_datum.specs.Order.{order}
use Rattle.reql_datum.specs.Total.{order_total}
use Rattle.reql_memory.proofs.Held.{held_set}
use Rattle.reql_ptree.specs.Chunk.{pair}
use Rattle.reql_ptree.proofs.edit.set_value.Goals as goal

pub returns-clause-pairs : goal.returns-clause-pairs
returns-clause-pairs c = λ k hit.
    rw c.replace.ensures.after (held_set order order_total pair c.args.all.now.items k c.args.place c.index_mut-pair.result.now (record { key = c.index_mut-pair.result.now.key; value = c.args.value }) hit c.requires.in_range c.index_mut-pair.ensures.value refl)
