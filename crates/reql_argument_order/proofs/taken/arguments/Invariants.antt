use Rattle.std.proofs.Common.{◌≡◌, ◌-◌, ◌++◌, drop, List, Ok}
use Rattle.reql_datum.specs.Answer.{◌>>=◌}
use Rattle.reql_value_spec.specs.Sense.{Sense, arguments}
use Rattle.reql_value_spec.specs.World.{World as Seen, Vars as Frames}
use Rattle.reql_operand.specs.Seen.{all_shown}
use Rattle.reql_argument_order.specs.Lent.{Take, Takes}
use Rattle.reql_argument_order.proofs.taken.arguments.Given as goal

abbrev pub invariant-loop-place : goal.invariant-loop-place
invariant-loop-place g l =
    (w : Seen) (how : Take) (ss : List Sense) (vars : Frames) → Takes w g.F.Fn l.take how l.count ss vars
    → arguments how 0 ss w vars ≡ (arguments how l.place (drop l.place ss) w vars >>= λ gs. Ok (all_shown w l.found.items ++ gs))

abbrev pub decreases-loop-place : goal.decreases-loop-place
decreases-loop-place g l = l.count - l.place
