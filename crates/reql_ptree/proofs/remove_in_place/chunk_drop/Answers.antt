use Rattle.std.proofs.Common.{map, sym, subst, ap, ◌∙◌}
use Rattle.reql_datum.specs.Order.{order}
use Rattle.reql_datum.specs.Total.{order_total}
use Rattle.reql_datum.specs.View.{plain}
use Rattle.reql_memory.proofs.Sorted.{find_gap, without_gap}
use Rattle.reql_ptree.specs.Chunk.{pair}
use Rattle.reql_ptree.specs.Pairs.{AreRising, without}
use Rattle.reql_ptree.proofs.remove_in_place.chunk_drop.Goals as goal

pub returns-in-Err-clause-pairs : goal.returns-in-Err-clause-pairs
returns-in-Err-clause-pairs g c =
    let k = plain c.args.key.now in
    let ps = map pair c.pairs.result.now in
    let up = subst AreRising (sym c.pairs.ensures.pairs) c.pairs.ensures.chunk.rising in
    sym (ap (without k) (sym c.pairs.ensures.pairs) ∙ without_gap order order_total ps k (find_gap order order_total ps k c.in-Err.field-0 up c.in-Err.ensures.gap) ∙ c.pairs.ensures.pairs)
