use Rattle.std.proofs.Common.{rules, ap, is_lt}
use Rattle.std.proofs.lemmas.Fn.{always_returns_same}
use Rattle.reql_group.specs.Seen.{pair_seen}
use Rattle.reql_group.proofs.Sorting.{before, group_ranks, sorted_pairs}
use Rattle.reql_group.proofs.gathering.in_order.Goals as goal

pub returns : goal.returns
returns c =
    let ranks = group_ranks pair_seen in
    sorted_pairs c.args.pairs.items c.sort_by.new.self.items
    (c.in_ok-sort_by.ensures.sorted before ranks (always_returns_same _ _ _ (λ a r next called. (ap is_lt (search rules), search rules))))
    (c.sort_by.ensures.stable before ranks (always_returns_same _ _ _ (λ a r next called. (ap is_lt (search rules), search rules))))
