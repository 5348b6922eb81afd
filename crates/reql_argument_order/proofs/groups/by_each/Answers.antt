use Rattle.reql_operand.specs.Tables.{seen}
use Rattle.reql_argument_order.specs.Ruled.{grouped_by}
use Rattle.reql_argument_order.proofs.groups.by_each.Goals as goal

pub returns : goal.returns
unfolding grouped_by
returns g c calls h =
    let w = seen g.V.TableView.documents g.V.TableView.indexes g.V.TableView.entries c.args.world.now in
    c.grouped_value.ensures w _ (c.each_group.ensures calls h)
