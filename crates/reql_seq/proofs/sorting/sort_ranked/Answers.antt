use Rattle.std.proofs.Common.{rules, ap, is_lt, ◌∷◌, []}
use Rattle.std.proofs.lemmas.Fn.{always_returns_same}
use Rattle.reql_rules.proofs.Keys.{keyed_ranks}
use Rattle.reql_seq.specs.Seen.{ranked}
use Rattle.reql_seq.proofs.Sorts.{ranked_before, sorted_ranked}
use Rattle.reql_seq.proofs.sorting.sort_ranked.Goals as goal

pub returns : goal.returns
returns c =
    let falls = c.args.falls in
    let ranks = keyed_ranks ranked (falls ∷ []) in
    sorted_ranked falls c.args.rows.now.items c.sort_by.new.self.items
    (c.in_ok-sort_by.ensures.sorted (ranked_before falls) ranks (always_returns_same _ _ _ (λ a r next called. (ap is_lt (search rules), search rules))))
    (c.sort_by.ensures.stable (ranked_before falls) ranks (always_returns_same _ _ _ (λ a r next called. (ap is_lt (search rules), search rules))))
