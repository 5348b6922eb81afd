use Rattle.std.proofs.Common.{map, sym, ◌∙◌, subst, ap}
use Rattle.reql_datum.specs.View.{plain}
use Rattle.reql_datum.specs.Order.{order}
use Rattle.reql_datum.specs.Total.{order_total}
use Rattle.reql_memory.proofs.Held.{value_at}
use Rattle.reql_memory.proofs.Sorted.{find_gap}
use Rattle.reql_ptree.specs.Chunk.{pair}
use Rattle.reql_ptree.specs.Pairs.{find, AreRising}
use Rattle.reql_ptree.proofs.seek.chunk_value.Goals as goal

pub returns-in-Ok-clause-found : goal.returns-in-Ok-clause-found
returns-in-Ok-clause-found g c =
    value_at order order_total pair c.pairs-pairs.result.now (plain c.args.key.now) c.in-Ok.place c.index-pairs-place.result c.in-Ok.ensures.hit c.in-Ok.ensures.in_range c.index-pairs-place.is
    ∙ ap (find (plain c.args.key.now)) c.pairs-pairs.ensures.pairs

pub returns-in-Err-clause-found : goal.returns-in-Err-clause-found
returns-in-Err-clause-found g c =
    sym (find_gap order order_total (map pair c.pairs-pairs.result.now) (plain c.args.key.now) c.in-Err.field-0 (subst AreRising (sym c.pairs-pairs.ensures.pairs) c.pairs-pairs.ensures.chunk.rising) c.in-Err.ensures.gap)
    ∙ ap (find (plain c.args.key.now)) c.pairs-pairs.ensures.pairs
