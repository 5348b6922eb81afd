use Rattle.std.proofs.Common.{◌≡◌, ◌-◌, drop, List}
use Rattle.reql_value_spec.specs.Lazy.{branches}
use Rattle.reql_value_spec.specs.Sense.{Sense}
use Rattle.reql_value_spec.specs.World.{World as Seen, Vars as Frames}
use Rattle.reql_argument_order.specs.Lent.{Evaluates}
use Rattle.reql_argument_order.proofs.chains.branches.Given as goal

abbrev pub invariant-loop-place : goal.invariant-loop-place
invariant-loop-place g l =
    (w : Seen) (ss : List Sense) (vars : Frames) → Evaluates w g.F.Fn l.eval l.count ss vars
    → branches (drop 2 ss) w vars ≡ branches (drop l.place ss) w vars

abbrev pub decreases-loop-place : goal.decreases-loop-place
decreases-loop-place g l = l.count - l.place
