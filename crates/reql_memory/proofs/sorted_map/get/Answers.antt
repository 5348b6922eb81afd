use Rattle.std.proofs.Common.{◌∙◌, sym, ap, map, Some}
use Rattle.reql_memory.proofs.Held.{value_at}
use Rattle.reql_memory.proofs.Sorted.{find_gap}
use Rattle.reql_memory.proofs.sorted_map.get.Goals as goal

pub returns-in-Ok : goal.returns-in-Ok
returns-in-Ok g c =
    ap Some c.value.ensures
    ∙ value_at g.E.Entry.order_by g.met.E.Entry.total g.E.Entry.pair c.args.held.now (g.E.Entry.key_seen (g.Q.Query.key c.args.query.now)) c.in-Ok.place c.index-held-place.result c.in-Ok.ensures.found c.in-Ok.ensures.in_range c.index-held-place.is

pub returns-in-Err : goal.returns-in-Err
returns-in-Err g c =
    sym (find_gap g.E.Entry.order_by g.met.E.Entry.total (map g.E.Entry.pair c.args.held.now) (g.E.Entry.key_seen (g.Q.Query.key c.args.query.now)) c.in-Err.field-0 c.requires.rising c.in-Err.ensures.absent)
