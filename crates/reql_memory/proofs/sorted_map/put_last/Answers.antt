use Rattle.std.proofs.Common.{◌≡◌, rules, [], ◌∷◌, ◌++◌, ◌∙◌, ap, map}
use Rattle.reql_memory.specs.CopyOnWrite.{held_items}
use Rattle.reql_memory.proofs.Held.{held_last}
use Rattle.reql_memory.proofs.Sorted.{rising_put}
use Rattle.reql_memory.proofs.sorted_map.put_last.Goals as goal

pub returns-in_ok-push-in-Some-get_mut-clause-entries : goal.returns-in_ok-push-in-Some-get_mut-clause-entries
returns-in_ok-push-in-Some-get_mut-clause-entries g c =
    let were : c.in-Some-get_mut.entries.now.items ≡ held_items c.args.held.now = search rules in
    ap (map g.E.Entry.pair) c.in_ok-push-in-Some-get_mut.ensures.items
    ∙ ap (λ rs. map g.E.Entry.pair (rs ++ c.of.result ∷ [])) were
    ∙ held_last g.E.Entry.order_by g.met.E.Entry.total g.E.Entry.pair (held_items c.args.held.now) c.of.result (g.E.Entry.key_seen c.args.key) (g.E.Entry.value_seen c.args.value)
    (g.met.E.Entry.seen c.of.result ∙ ap (λ m. (g.E.Entry.key_seen m.0, g.E.Entry.value_seen m.1)) c.of.ensures) c.requires.above

pub returns-in_ok-push-in-Some-get_mut-clause-rising : goal.returns-in_ok-push-in-Some-get_mut-clause-rising
returns-in_ok-push-in-Some-get_mut-clause-rising g c =
    rw (returns-in_ok-push-in-Some-get_mut-clause-entries g c) (rising_put g.E.Entry.order_by g.met.E.Entry.total (g.E.Entry.key_seen c.args.key) (g.E.Entry.value_seen c.args.value) (map g.E.Entry.pair (held_items c.args.held.now)) c.requires.rising)
