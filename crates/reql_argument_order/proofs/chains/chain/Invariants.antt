use Rattle.std.proofs.Common.{◌≡◌, ◌-◌, drop, List}
use Rattle.reql_value_spec.specs.Lazy.{chain}
use Rattle.reql_value_spec.specs.Sense.{Sense}
use Rattle.reql_value_spec.specs.World.{World as Seen, Vars as Frames}
use Rattle.reql_operand.specs.Seen.{meant}
use Rattle.reql_argument_order.specs.Lent.{Evaluates}
use Rattle.reql_argument_order.proofs.chains.chain.Given as goal

abbrev pub invariant-loop-place : goal.invariant-loop-place
invariant-loop-place g l =
    (w : Seen) (ss : List Sense) (vars : Frames) → Evaluates w g.F.Fn l.eval l.count ss vars
    → chain l.at (drop 1 ss) w vars (meant w l.initial.value) ≡ chain l.at (drop l.place ss) w vars (meant w l.value)

abbrev pub decreases-loop-place : goal.decreases-loop-place
decreases-loop-place g l = l.count - l.place
