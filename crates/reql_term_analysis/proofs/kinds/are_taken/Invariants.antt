use Rattle.std.proofs.Common.{◌≡◌, ◌-◌, length, drop}
use Rattle.reql_term_analysis.specs.Bound.{optional}
use Rattle.reql_term_analysis.specs.Kinds.{all_taken}
use Rattle.reql_term_analysis.proofs.kinds.are_taken.Given as goal

abbrev pub invariant-loop-name : goal.invariant-loop-name
invariant-loop-name l = all_taken l.op (optional l.opts) ≡ all_taken l.op (optional (drop l.place l.opts))

abbrev pub decreases-loop-name : goal.decreases-loop-name
decreases-loop-name l = length l.opts - l.place
