use Rattle.std.proofs.Common.{◌≡◌, ◌++◌, length, map}
use Rattle.reql_datum.specs.View.{plain}
use Rattle.reql_table.specs.Inside.{rest_of, pairs_inside, pair}
use Rattle.reql_table.proofs.walk.pairs.Given as goal

abbrev pub decreases-loop-key : goal.decreases-loop-key
decreases-loop-key l = length (rest_of l.slice (plain l.at) l.past)

abbrev pub invariant-loop-key : goal.invariant-loop-key
invariant-loop-key l = map pair l.found.items ++ rest_of l.slice (plain l.at) l.past ≡ pairs_inside l.slice
