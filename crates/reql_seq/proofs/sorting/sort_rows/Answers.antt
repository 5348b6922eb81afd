use Rattle.std.proofs.Common.{rules, ap, is_lt}
use Rattle.std.proofs.lemmas.Fn.{always_returns_same}
use Rattle.reql_rules.proofs.Keys.{keyed_ranks}
use Rattle.reql_seq.specs.Seen.{keyed}
use Rattle.reql_seq.proofs.Sorts.{before, sorted_rows}
use Rattle.reql_seq.proofs.sorting.sort_rows.Goals as goal

pub returns : goal.returns
returns c =
    let down = c.args.down.now in
    let ranks = keyed_ranks keyed down in
    sorted_rows down c.args.rows.now.items c.sort_by.new.self.items
    (c.in_ok-sort_by.ensures.sorted (before down) ranks (always_returns_same _ _ _ (λ a r next called. (ap is_lt (search rules), search rules))))
    (c.sort_by.ensures.stable (before down) ranks (always_returns_same _ _ _ (λ a r next called. (ap is_lt (search rules), search rules))))
