use Rattle.std.proofs.Common.{◌≡◌, ◌++◌, map, drop}
use Rattle.reql_datum.specs.View.{plain}
use Rattle.reql_feed_spec.specs.Feeds.{opened_from}
use Rattle.reql_feed_limit.proofs.printing.opening_items.Given as goal

abbrev pub invariant-loop-element : goal.invariant-loop-element
invariant-loop-element l =
    (l.items ++ opened_from (record { offsets = l.offsets; types = l.types }) l.at (map (λ e. plain e.doc) (drop l.element-index l.held)) ≡ opened_from (record { offsets = l.offsets; types = l.types }) 0 (map (λ e. plain e.doc) l.held))
    × (l.at ≡ l.element-index)
