use Rattle.std.proofs.Common.{rules}
use Rattle.std.proofs.lemmas.Fn.{always_returns_same}
use Rattle.reql_memory.proofs.Held.{place_found}
use Rattle.reql_memory.proofs.sorted_map.search.Goals as goal

pub returns-clause-found : goal.returns-clause-found
returns-clause-found g c =
    let e = g.E.Entry in
    let facts = c.binary_search_by.ensures in
    let by = facts.position (λ x. e.order_by (e.pair x).0 (e.key_seen (g.Q.Query.key c.args.query.now))) (always_returns_same _ _ _ (λ a r f called. search rules)) in
    (place_found e.order_by g.met.E.Entry.total e.pair c.args.held.now (e.key_seen (g.Q.Query.key c.args.query.now)) c.binary_search_by.result c.requires.rising facts.bound by).found

pub returns-clause-absent : goal.returns-clause-absent
returns-clause-absent g c =
    let e = g.E.Entry in
    let facts = c.binary_search_by.ensures in
    let by = facts.position (λ x. e.order_by (e.pair x).0 (e.key_seen (g.Q.Query.key c.args.query.now))) (always_returns_same _ _ _ (λ a r f called. search rules)) in
    (place_found e.order_by g.met.E.Entry.total e.pair c.args.held.now (e.key_seen (g.Q.Query.key c.args.query.now)) c.binary_search_by.result c.requires.rising facts.bound by).absent
