use Rattle.std.proofs.Common.{◌≡◌, ◌-◌, drop, length}
use Rattle.reql_datum.specs.View.{plain}
use Rattle.reql_table.specs.Edits.{taken}
use Rattle.reql_table.proofs.indexing.take_out.Given as goal

abbrev pub decreases-loop-value : goal.decreases-loop-value
decreases-loop-value l = length l.values - l.place

abbrev pub invariant-loop-value : goal.invariant-loop-value
invariant-loop-value l = taken (plain l.key) (drop l.place l.values) l.tree ≡ taken (plain l.key) l.values l.initial.tree
