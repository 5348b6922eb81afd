use Rattle.reql_operand.specs.Seen.{all_shown}
use Rattle.reql_operand.specs.Tables.{seen}
use Rattle.reql_apply_seq.specs.Orders.{range_entries}
use Rattle.reql_apply_seq.proofs.Ordered.{further_rows}
use Rattle.reql_apply_seq.proofs.index_order.order_by_both.Goals as goal

pub returns : goal.returns
returns g c = λ calls h.
    let w = seen g.V.TableView.documents g.V.TableView.indexes g.V.TableView.entries c.args.world.now in
    rw (further_rows calls c.args.slot c.args.down (all_shown w c.args.keys.now) (range_entries w c.args.slot c.args.range.now)) (c.order_selected.ensures calls h)
