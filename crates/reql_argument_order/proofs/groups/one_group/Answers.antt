use Rattle.std.proofs.Common.{drop, ap}
use Rattle.reql_operand.specs.Tables.{seen}
use Rattle.reql_argument_order.proofs.Ungrouped.{gives_on}
use Rattle.reql_argument_order.proofs.groups.one_group.Goals as goal

pub returns-clause-rest : goal.returns-clause-rest
returns-clause-rest g c w = ap (drop 1) (c.put_first.ensures.first w)

pub returns-clause-gives : goal.returns-clause-gives
returns-clause-gives g c rest calls same h =
    let w = seen g.V.TableView.documents g.V.TableView.indexes g.V.TableView.entries c.args.world.now in
    gives_on w c.at_once.result c.args.op calls _ _ rest _ _ (c.put_first.ensures.first w) same (c.at_once.ensures calls h)
