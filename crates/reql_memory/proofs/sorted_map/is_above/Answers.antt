use Rattle.std.proofs.Common.{sym, ◌∙◌}
use Rattle.reql_memory.proofs.Held.{gap_last, is_less}
use Rattle.reql_memory.proofs.sorted_map.is_above.Goals as goal

pub returns-in-Some : goal.returns-in-Some
returns-in-Some g c above =
    gap_last g.E.Entry.order_by g.met.E.Entry.total g.E.Entry.pair c.args.held.now (g.E.Entry.key_seen c.args.key.now) c.in-Some.last.now c.requires.rising c.in-Some.ensures.value
    (sym c.order.ensures ∙ is_less c.order.result (sym above ∙ c.is_lt.ensures))
