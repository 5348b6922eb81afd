use Rattle.std.proofs.Common.{◌≡◌, ◌++◌, ◌-◌, length, drop, Ok}
use Rattle.reql_datum.specs.Answer.{◌>>=◌}
use Rattle.reql_rules.specs.Mapping.{places_from}
use Rattle.reql_value_spec.specs.Called.{passes}
use Rattle.reql_value_spec.specs.Meant.{Calls}
use Rattle.reql_value_spec.specs.World.{World}
use Rattle.reql_operand.specs.Called.{Answers}
use Rattle.reql_operand.specs.Seen.{shown}
use Rattle.reql_apply_seq.proofs.offsets.places_of.Given as goal

abbrev pub invariant-loop-item : goal.invariant-loop-item
invariant-loop-item g l =
    (w : World) (calls : Calls) → Answers w g.F.Fn l.call calls
    → places_from 0 (passes calls (shown w l.f)) l.items ≡ (places_from l.place (passes calls (shown w l.f)) (drop l.place l.items) >>= λ vs. Ok (l.places ++ vs))

abbrev pub decreases-loop-item : goal.decreases-loop-item
decreases-loop-item g l = length l.items - l.place
