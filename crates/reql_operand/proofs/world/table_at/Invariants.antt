use Rattle.std.proofs.Common.{◌≡◌, drop, map}
use Rattle.reql_value_spec.specs.World.{view_in}
use Rattle.reql_operand.specs.Tables.{slotted}
use Rattle.reql_operand.proofs.world.table_at.Given as goal

abbrev pub invariant-loop-table : goal.invariant-loop-table
invariant-loop-table g l =
    let v = slotted g.V.TableView.documents g.V.TableView.indexes g.V.TableView.entries in
    view_in l.slot (map v l.world.tables.items) ≡ view_in l.slot (map v (drop l.table-index l.world.tables.items))
