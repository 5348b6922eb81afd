use Rattle.std.proofs.Common.{◌≡◌, ◌-◌, length, drop}
use Rattle.reql_rules.specs.Mapping.{some_pass}
use Rattle.reql_value_spec.specs.Called.{passes}
use Rattle.reql_value_spec.specs.Meant.{Calls}
use Rattle.reql_value_spec.specs.World.{World}
use Rattle.reql_operand.specs.Called.{Answers}
use Rattle.reql_operand.specs.Seen.{shown}
use Rattle.reql_apply_seq.specs.Passing.{or_on}
use Rattle.reql_apply_seq.proofs.passing.some_pass.Given as goal

abbrev pub invariant-loop-item : goal.invariant-loop-item
invariant-loop-item g l =
    (w : World) (calls : Calls) → Answers w g.F.Fn l.call calls
    → some_pass (passes calls (shown w l.f)) l.items ≡ or_on l.some (some_pass (passes calls (shown w l.f)) (drop l.place l.items))

abbrev pub decreases-loop-item : goal.decreases-loop-item
decreases-loop-item g l = length l.items - l.place
