use Rattle.std.proofs.Common.{◌∙◌, sym, ap, map, Some}
use Rattle.reql_memory.specs.Sorted.{put_by}
use Rattle.reql_memory.proofs.Held.{value_at, held_set, held_insert_as}
use Rattle.reql_memory.proofs.Sorted.{find_gap, rising_put}
use Rattle.reql_memory.proofs.sorted_map.put.Goals as goal

pub returns-in-Ok-clause-replaced : goal.returns-in-Ok-clause-replaced
returns-in-Ok-clause-replaced g c =
    let hit = rw c.deref.ensures.value at c.in-Ok.ensures.found in
    let within = rw c.deref.ensures.value at c.in-Ok.ensures.in_range in
    ap Some c.replace.ensures.old
    ∙ value_at g.E.Entry.order_by g.met.E.Entry.total g.E.Entry.pair c.args.held.now.items (g.E.Entry.key_seen c.args.key) c.in-Ok.place c.index_mut-entry.result.now hit within c.index_mut-entry.ensures.value

pub returns-in-Ok-clause-entries : goal.returns-in-Ok-clause-entries
returns-in-Ok-clause-entries g c =
    let hit = rw c.deref.ensures.value at c.in-Ok.ensures.found in
    let within = rw c.deref.ensures.value at c.in-Ok.ensures.in_range in
    let new = c.replace.ensures.new in
    held_set g.E.Entry.order_by g.met.E.Entry.total g.E.Entry.pair c.args.held.now.items (g.E.Entry.key_seen c.args.key) c.in-Ok.place c.index_mut-entry.result.now c.replace.new.self hit within c.index_mut-entry.ensures.value (ap (λ m. m.0) new)
    ∙ ap (λ m. put_by g.E.Entry.order_by (g.E.Entry.key_seen c.args.key) m.1 (map g.E.Entry.pair c.args.held.now.items)) new

pub returns-in-Ok-clause-rising : goal.returns-in-Ok-clause-rising
returns-in-Ok-clause-rising g c =
    rw (returns-in-Ok-clause-entries g c) (rising_put g.E.Entry.order_by g.met.E.Entry.total (g.E.Entry.key_seen c.args.key) (g.E.Entry.value_seen c.args.value) (map g.E.Entry.pair c.args.held.now.items) c.requires.rising)

pub returns-in_default-clause-replaced : goal.returns-in_default-clause-replaced
returns-in_default-clause-replaced g c =
    let gap = rw c.deref.ensures.value at c.in-Err.ensures.absent in
    sym (find_gap g.E.Entry.order_by g.met.E.Entry.total (map g.E.Entry.pair c.args.held.now.items) (g.E.Entry.key_seen c.args.key) c.in-Err.place c.requires.rising gap)

pub returns-in_default-clause-entries : goal.returns-in_default-clause-entries
returns-in_default-clause-entries g c =
    let gap = rw c.deref.ensures.value at c.in-Err.ensures.absent in
    ap (map g.E.Entry.pair) c.in_default.ensures.items
    ∙ held_insert_as g.E.Entry.order_by g.met.E.Entry.total g.E.Entry.pair c.args.held.now.items c.in-Err.place c.of.result (g.E.Entry.key_seen c.args.key) (g.E.Entry.value_seen c.args.value)
    (g.met.E.Entry.seen c.of.result ∙ ap (λ m. (g.E.Entry.key_seen m.0, g.E.Entry.value_seen m.1)) c.of.ensures) gap

pub returns-in_default-clause-rising : goal.returns-in_default-clause-rising
returns-in_default-clause-rising g c =
    rw (returns-in_default-clause-entries g c) (rising_put g.E.Entry.order_by g.met.E.Entry.total (g.E.Entry.key_seen c.args.key) (g.E.Entry.value_seen c.args.value) (map g.E.Entry.pair c.args.held.now.items) c.requires.rising)
