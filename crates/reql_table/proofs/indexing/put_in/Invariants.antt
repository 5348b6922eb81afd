use Rattle.std.proofs.Common.{◌≡◌, ◌-◌, drop, length}
use Rattle.reql_datum.specs.View.{plain}
use Rattle.reql_table.specs.Edits.{filed}
use Rattle.reql_table.proofs.indexing.put_in.Given as goal

abbrev pub decreases-loop-value : goal.decreases-loop-value
decreases-loop-value l = length l.values - l.place

abbrev pub invariant-loop-value : goal.invariant-loop-value
invariant-loop-value l =
    filed (plain l.key, plain l.document) (drop l.place l.values) l.tree ≡ filed (plain l.key, plain l.document) l.values l.initial.tree
