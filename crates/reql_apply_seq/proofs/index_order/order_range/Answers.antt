use Rattle.std.proofs.Common.{sym, subst}
use Rattle.reql_datum.specs.Outcome.{Gives}
use Rattle.reql_operand.specs.Seen.{meant}
use Rattle.reql_operand.specs.Tables.{seen}
use Rattle.reql_apply_seq.specs.Orders.{range_entries}
use Rattle.reql_apply_seq.proofs.Ordered.{further_by}
use Rattle.reql_apply_seq.proofs.index_order.order_range.Goals as goal

pub returns-in_default : goal.returns-in_default
returns-in_default g c = λ calls answers.
    let w = seen g.V.TableView.documents g.V.TableView.indexes g.V.TableView.entries c.args.world.now in
    subst (Gives (meant w) c.order_by_both.result)
    (sym (further_by w calls c.args.slot c.args.down c.args.keys.now (range_entries w c.args.slot c.args.range.now) c.in_default.len_at_least))
    (c.order_by_both.ensures calls answers)
