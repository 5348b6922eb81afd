use Rattle.std.proofs.Common.{◌≡◌, ◌++◌, ◌-◌, length, drop}
use Rattle.reql_apply_seq.specs.Orders.{rows_of}
use Rattle.reql_apply_seq.proofs.rows.rows_of.Given as goal

abbrev pub invariant-loop-value : goal.invariant-loop-value
invariant-loop-value l = rows_of l.values l.documents ≡ l.rows ++ rows_of (drop l.place l.values) (drop l.place l.documents)

abbrev pub decreases-loop-value : goal.decreases-loop-value
decreases-loop-value l = length l.values - l.place
