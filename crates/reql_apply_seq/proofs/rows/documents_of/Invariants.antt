use Rattle.std.proofs.Common.{◌≡◌, ◌++◌, ◌-◌, length, drop, map}
use Rattle.reql_apply_seq.specs.Orders.{document_of}
use Rattle.reql_apply_seq.proofs.rows.documents_of.Given as goal

abbrev pub invariant-loop-row : goal.invariant-loop-row
invariant-loop-row l = map document_of l.rows ≡ l.documents ++ map document_of (drop l.place l.rows)

abbrev pub decreases-loop-row : goal.decreases-loop-row
decreases-loop-row l = length l.rows - l.place
