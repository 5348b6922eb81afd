use Rattle.std.proofs.Common.{sym, ◌∙◌}
use Rattle.reql_memory.proofs.Held.{gap_last, is_less}
use Rattle.reql_memory.proofs.sorted_map.search_from_end.Goals as goal

pub returns-then-is_lt-clause-absent : goal.returns-then-is_lt-clause-absent
returns-then-is_lt-clause-absent g c =
    gap_last g.E.Entry.order_by g.met.E.Entry.total g.E.Entry.pair c.args.held.now (g.E.Entry.key_seen (g.Q.Query.key c.args.query.now)) c.in-Some.last.now c.requires.rising c.in-Some.ensures.value
    (sym c.order_of.ensures ∙ is_less c.order_of.result (sym c.if-is_lt.true ∙ c.is_lt.ensures))
