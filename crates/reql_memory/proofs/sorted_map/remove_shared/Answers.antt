use Rattle.std.proofs.Common.{map, sym}
use Rattle.reql_memory.specs.CopyOnWrite.{held_items}
use Rattle.reql_memory.proofs.Sorted.{without_gap}
use Rattle.reql_memory.proofs.sorted_map.remove_shared.Goals as goal

pub returns-in-None-clause-entries : goal.returns-in-None-clause-entries
returns-in-None-clause-entries g c =
    let none = rw c.shown.ensures at c.in-None.ensures in
    sym (without_gap g.E.Entry.order_by g.met.E.Entry.total (map g.E.Entry.pair (held_items c.args.held.now)) (g.E.Entry.key_seen (g.Q.Query.key c.args.query.now)) (sym none))
