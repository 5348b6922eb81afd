use Rattle.reql_value_spec.specs.Meant.{meant_of}
use Rattle.reql_operand.specs.Seen.{shown}
use Rattle.reql_operand.specs.Tables.{view, seen}
use Rattle.reql_apply_table.proofs.Slices.{table_stands}
use Rattle.reql_apply_table.proofs.sources.table_in.Goals as goal

pub returns-clause-there : goal.returns-clause-there
returns-clause-there g c =
    let w = seen g.V.TableView.documents g.V.TableView.indexes g.V.TableView.entries c.args.world.now in
    table_stands w (meant_of (shown w c.args.arg.now)) (λ t. (t.now.slot, view g.V.TableView.documents g.V.TableView.indexes g.V.TableView.entries t.now)) c.as_table.result c.as_table.ensures
