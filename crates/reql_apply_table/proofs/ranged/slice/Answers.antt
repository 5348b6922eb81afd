use Rattle.reql_operand.specs.Seen.{bounds}
use Rattle.reql_operand.specs.Tables.{view}
use Rattle.reql_apply_table.proofs.Slices.{slice_stands}
use Rattle.reql_apply_table.proofs.ranged.slice.Goals as goal

pub returns : goal.returns
returns g c w viewed =
    let v = view g.V.TableView.documents g.V.TableView.indexes g.V.TableView.entries c.args.table.now in
    slice_stands w c.args.table.now.slot v c.in_ok-range.range (bounds c.args.bounds) _ c.in_ok-index.ensures viewed (c.in_ok-range.ensures v)
