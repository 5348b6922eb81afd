use Rattle.std.proofs.Common.{map, sym, subst, ap, ◌∙◌, arith, length, vec_len}
use Rattle.std.proofs.lemmas.List.{length-map}
use Rattle.reql_datum.specs.Order.{order}
use Rattle.reql_datum.specs.Total.{order_total}
use Rattle.reql_datum.specs.View.{plain}
use Rattle.reql_memory.proofs.Sorted.{rising_without, find_gap, without_gap}
use Rattle.reql_ptree.specs.Chunk.{pair}
use Rattle.reql_ptree.specs.Pairs.{AreRising, without}
use Rattle.reql_ptree.proofs.Chunks.{not_empty}
use Rattle.reql_ptree.proofs.edit.chunk_remove.Goals as goal

pub of-requires : goal.of-requires
of-requires g c =
    let k = plain c.args.key.now in
    let ps = c.pairs-pairs.result.now in
    let up = subst AreRising (sym c.pairs-pairs.ensures.pairs) c.pairs-pairs.ensures.chunk.rising in
    record {
      rising = rw (c.in_ok-rest-in-Ok.ensures.pairs k c.in-Ok.ensures.hit) (rising_without order order_total k (map pair ps) up);
      some = omega (arith, length-map c.in_ok-rest-in-Ok.rest.items pair, c.in_ok-rest-in-Ok.rest.ok, not_empty (vec_len c.in_ok-rest-in-Ok.rest) (sym c.is_empty.ensures ∙ c.if-is_empty.false));
      few = omega (arith, length-map c.in_ok-rest-in-Ok.rest.items pair, c.in_ok-rest-in-Ok.ensures.length, length-map ps pair, ap length c.pairs-pairs.ensures.pairs, c.pairs-pairs.ensures.chunk.few);
    }

pub returns-in_ok-copy-in-Err-clause-pairs : goal.returns-in_ok-copy-in-Err-clause-pairs
returns-in_ok-copy-in-Err-clause-pairs g c =
    let k = plain c.args.key.now in
    let ps = map pair c.pairs-pairs.result.now in
    let up = subst AreRising (sym c.pairs-pairs.ensures.pairs) c.pairs-pairs.ensures.chunk.rising in
    c.in_ok-copy-in-Err.ensures ∙ sym (ap (without k) (sym c.pairs-pairs.ensures.pairs) ∙ without_gap order order_total ps k (find_gap order order_total ps k c.in-Err.field-0 up c.in-Err.ensures.gap) ∙ c.pairs-pairs.ensures.pairs)
