use Rattle.std.proofs.Common.{◌≡◌, ◌++◌, map}
use Rattle.std.specs.Vec.Iter.{into_iter_items}
use Rattle.reql_rules.specs.Sorting.{elements}
use Rattle.reql_seq.specs.Seen.{ranked}
use Rattle.reql_seq.proofs.sorting.ranked_values.Given as goal

abbrev pub invariant-loop-row : goal.invariant-loop-row
invariant-loop-row l =
    (l.yielded ++ into_iter_items l.row-iterator ≡ into_iter_items l.initial.row-iterator)
    × (l.items ≡ elements (map ranked l.yielded))
