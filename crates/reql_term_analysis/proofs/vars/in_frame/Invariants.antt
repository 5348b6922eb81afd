use Rattle.std.proofs.Common.{◌≡◌, ◌-◌, length, drop, map}
use Rattle.std.specs.List.{zip}
use Rattle.reql_datum.specs.View.{plain}
use Rattle.reql_value_spec.specs.World.{in_frame}
use Rattle.reql_term_analysis.proofs.vars.in_frame.Given as goal

abbrev pub invariant-loop-i : goal.invariant-loop-i
invariant-loop-i l = in_frame l.id (zip l.ids (map plain l.values)) ≡ in_frame l.id (zip (drop l.i l.ids) (drop l.i (map plain l.values)))

abbrev pub decreases-loop-i : goal.decreases-loop-i
decreases-loop-i l = length l.ids - l.i
