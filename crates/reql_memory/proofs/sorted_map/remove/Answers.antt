use Rattle.std.proofs.Common.{◌∙◌, sym, ap, map, Some}
use Rattle.reql_memory.proofs.Held.{value_at, held_remove}
use Rattle.reql_memory.proofs.Sorted.{find_gap, without_gap, rising_without}
use Rattle.reql_memory.proofs.sorted_map.remove.Goals as goal

pub returns-in-Ok-clause-removed : goal.returns-in-Ok-clause-removed
returns-in-Ok-clause-removed g c =
    let hit = rw c.deref.ensures.value at c.in-Ok.ensures.found in
    let within = rw c.deref.ensures.value at c.in-Ok.ensures.in_range in
    ap (λ m. Some (g.E.Entry.value_seen m.1)) c.into_parts-value.ensures
    ∙ ap (λ m. Some m.1) (sym (g.met.E.Entry.seen c.remove.result))
    ∙ value_at g.E.Entry.order_by g.met.E.Entry.total g.E.Entry.pair c.args.held.now.items (g.E.Entry.key_seen (g.Q.Query.key c.args.query.now)) c.in-Ok.place c.remove.result hit within c.remove.ensures.value

pub returns-in-Ok-clause-entries : goal.returns-in-Ok-clause-entries
returns-in-Ok-clause-entries g c =
    let hit = rw c.deref.ensures.value at c.in-Ok.ensures.found in
    ap (map g.E.Entry.pair) c.remove.ensures.items
    ∙ held_remove g.E.Entry.order_by g.met.E.Entry.total g.E.Entry.pair c.args.held.now.items (g.E.Entry.key_seen (g.Q.Query.key c.args.query.now)) c.in-Ok.place hit

pub returns-in-Ok-clause-rising : goal.returns-in-Ok-clause-rising
returns-in-Ok-clause-rising g c =
    rw (returns-in-Ok-clause-entries g c) (rising_without g.E.Entry.order_by g.met.E.Entry.total (g.E.Entry.key_seen (g.Q.Query.key c.args.query.now)) (map g.E.Entry.pair c.args.held.now.items) c.requires.rising)

pub returns-in-Err-clause-removed : goal.returns-in-Err-clause-removed
returns-in-Err-clause-removed g c =
    let gap = rw c.deref.ensures.value at c.in-Err.ensures.absent in
    sym (find_gap g.E.Entry.order_by g.met.E.Entry.total (map g.E.Entry.pair c.args.held.now.items) (g.E.Entry.key_seen (g.Q.Query.key c.args.query.now)) c.in-Err.field-0 c.requires.rising gap)

pub returns-in-Err-clause-entries : goal.returns-in-Err-clause-entries
returns-in-Err-clause-entries g c =
    let none = returns-in-Err-clause-removed g c in
    sym (without_gap g.E.Entry.order_by g.met.E.Entry.total (map g.E.Entry.pair c.args.held.now.items) (g.E.Entry.key_seen (g.Q.Query.key c.args.query.now)) (sym none))
