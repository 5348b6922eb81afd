use Rattle.std.proofs.Common.{rules}
use Rattle.reql_operand.specs.Tables.{seen}
use Rattle.reql_argument_order.proofs.Ungrouped.{gives_together}
use Rattle.reql_argument_order.proofs.groups.over_groups.Goals as goal

pub returns : goal.returns
returns g c calls h =
    let w = seen g.V.TableView.documents g.V.TableView.indexes g.V.TableView.entries c.args.world.now in
    gives_together w _ c.args.op calls _ _ _ _ _ (c.take_groups-groups.ensures.first w) (search rules) (c.by_each.ensures calls h)
