use Rattle.reql_operand.specs.Tables.{seen}
use Rattle.reql_argument_order.proofs.Ungrouped.{gives_alone}
use Rattle.reql_argument_order.proofs.groups.ungrouped.Goals as goal

pub returns : goal.returns
returns g c calls h =
    let w = seen g.V.TableView.documents g.V.TableView.indexes g.V.TableView.entries c.args.world.now in
    gives_alone w _ c.args.op calls _ _ (c.requires.ungrouped w) (c.at_once.ensures calls h)
