use Rattle.std.proofs.Common.{rules}
use Rattle.std.proofs.lemmas.Fn.{always_returns_same}
use Rattle.reql_datum.specs.View.{plain}
use Rattle.reql_memory.proofs.Held.{place_found}
use Rattle.reql_feed_limit.specs.Selection.{facing}
use Rattle.reql_feed_limit.proofs.Law.{facing_strict}
use Rattle.reql_feed_limit.specs.declared.element.Element.{Element}
use Rattle.reql_feed_limit.specs.Seen.{seen}
use Rattle.reql_feed_limit.proofs.search.place_of.Goals as goal

pub returns-clause-hit : goal.returns-clause-hit
returns-clause-hit c =
    let facts = c.binary_search_by.ensures in
    let by = facts.position (λ (e : Element). facing c.args.descending (plain e.pair) (plain c.args.pair.now)) (always_returns_same _ _ _ (λ a r f called. search rules)) in
    (place_found (facing c.args.descending) (facing_strict c.args.descending).total seen c.args.held.now (plain c.args.pair.now) c.binary_search_by.result c.requires.rising facts.bound by).found

pub returns-clause-gap : goal.returns-clause-gap
returns-clause-gap c =
    let facts = c.binary_search_by.ensures in
    let by = facts.position (λ (e : Element). facing c.args.descending (plain e.pair) (plain c.args.pair.now)) (always_returns_same _ _ _ (λ a r f called. search rules)) in
    (place_found (facing c.args.descending) (facing_strict c.args.descending).total seen c.args.held.now (plain c.args.pair.now) c.binary_search_by.result c.requires.rising facts.bound by).absent
