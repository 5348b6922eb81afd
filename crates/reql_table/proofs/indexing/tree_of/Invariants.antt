use Rattle.std.proofs.Common.{◌≡◌, [], drop, map}
use Rattle.reql_term.specs.Views.{index_of}
use Rattle.reql_table.specs.Edits.{all_filed}
use Rattle.reql_table.specs.Inside.{pair}
use Rattle.reql_table.proofs.indexing.tree_of.Given as goal

abbrev pub invariant-loop-pair : goal.invariant-loop-pair
invariant-loop-pair l =
    all_filed (index_of l.def) (map pair (drop l.pair-index l.documents)) l.tree ≡ all_filed (index_of l.def) (map pair l.documents) []
