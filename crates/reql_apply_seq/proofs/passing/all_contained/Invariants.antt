use Rattle.std.proofs.Common.{◌≡◌, drop}
use Rattle.reql_value_spec.specs.Meant.{Calls}
use Rattle.reql_value_spec.specs.Sequences.{all_contained}
use Rattle.reql_value_spec.specs.World.{World}
use Rattle.reql_operand.specs.Called.{Answers}
use Rattle.reql_operand.specs.Seen.{all_shown}
use Rattle.reql_apply_seq.specs.Passing.{and_on}
use Rattle.reql_apply_seq.proofs.passing.all_contained.Given as goal

abbrev pub invariant-loop-test : goal.invariant-loop-test
invariant-loop-test g l =
    (w : World) (calls : Calls) → Answers w g.F.Fn l.call calls
    → all_contained calls l.items (all_shown w l.tests) ≡ and_on l.all (all_contained calls l.items (all_shown w (drop l.test-index l.tests)))
