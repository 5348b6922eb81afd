-- ORDER_BY sorts stably.
use Rattle.reql_rules.specs.Laws.{KeysSortStably}
use Rattle.reql_rules.specs.Sorting.{keyed_order}
use Rattle.reql_rules.proofs.Keys.{keyed_ranks}
use Rattle.reql_rules.proofs.Stable.{sorts, keeps_ties, is_sorted}

pub sorts_stably : KeysSortStably
sorts_stably down xs =
    let weak = keyed_ranks (λ x. x) down in
    ((sorts (keyed_order down) weak xs, keeps_ties (keyed_order down) weak xs), λ ys h. is_sorted (keyed_order down) weak xs ys h.0 h.1)
