use Rattle.reql_operand.specs.Tables.{seen}
use Rattle.reql_eval.proofs.steps.parameter.Goals as goal

pub returns : goal.returns
returns g c =
    let w = seen g.V.TableView.documents g.V.TableView.indexes g.V.TableView.entries c.args.world.now in
    rw c.in_ok-d.ensures (c.sized.ensures w)
