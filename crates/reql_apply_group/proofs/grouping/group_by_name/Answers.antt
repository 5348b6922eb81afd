use Rattle.reql_value_spec.specs.Meant.{meant_of}
use Rattle.reql_operand.specs.Seen.{shown}
use Rattle.reql_operand.specs.Tables.{seen}
use Rattle.reql_apply_group.proofs.Grouped.{grouped_beside}
use Rattle.reql_apply_group.proofs.grouping.group_by_name.Goals as goal

pub returns : goal.returns
returns g c =
    let w = seen g.V.TableView.documents g.V.TableView.indexes g.V.TableView.entries c.args.world.now in
    rw (grouped_beside w c.args.name.now (meant_of (shown w c.args.source.now))) c.group_entries.ensures
