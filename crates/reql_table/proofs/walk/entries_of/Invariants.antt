use Rattle.std.proofs.Common.{◌≡◌, ◌++◌, drop, map}
use Rattle.reql_term.specs.Views.{values_in, documents_in}
use Rattle.reql_table.specs.Inside.{pair}
use Rattle.reql_table.specs.Keys.{entry_in}
use Rattle.reql_table.proofs.walk.entries_of.Given as goal

abbrev pub invariant-loop-pair : goal.invariant-loop-pair
invariant-loop-pair l =
    (l.values ++ values_in (map (entry_in l.filed) (map pair (drop l.pair-index l.pairs))) ≡ values_in (map (entry_in l.filed) (map pair l.pairs)))
    × (l.documents ++ documents_in (map (entry_in l.filed) (map pair (drop l.pair-index l.pairs))) ≡ documents_in (map (entry_in l.filed) (map pair l.pairs)))
