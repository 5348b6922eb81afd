use Rattle.std.proofs.Common.{◌≡◌, ◌-◌, drop, length}
use Rattle.reql_term.specs.Form.{forms_of}
use Rattle.reql_operand.specs.Tables.{seen}
use Rattle.reql_plan.specs.Chosen.{chosen}
use Rattle.reql_plan.proofs.carrying.chosen.Given as goal

abbrev pub invariant-loop-test : goal.invariant-loop-test
invariant-loop-test g l =
    let w = seen g.V.TableView.documents g.V.TableView.indexes g.V.TableView.entries l.world in
    chosen w (forms_of (drop l.place l.args)) ≡ chosen w (forms_of l.args)

abbrev pub decreases-loop-test : goal.decreases-loop-test
decreases-loop-test g l = length l.args - l.place
