use Rattle.std.proofs.Common.{◌∙◌, length}
use Rattle.reql_operand.specs.Tables.{view}
use Rattle.reql_operand.proofs.Whole.{taken_whole}
use Rattle.reql_operand.proofs.counted.count_whole.Goals as goal

pub returns : goal.returns
returns g c =
    let v = view g.V.TableView.documents g.V.TableView.indexes g.V.TableView.entries c.in_ok-table.table.now in
    taken_whole length c.whole_range-range.result v _ c.in_ok-table.ensures.found (c.whole_range-range.ensures _ _ _) ∙ c.in_ok-count.ensures
