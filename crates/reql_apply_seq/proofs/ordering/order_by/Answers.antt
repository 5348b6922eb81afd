use Rattle.std.proofs.Common.{Option, subst}
use Rattle.reql_datum.specs.Outcome.{Gives}
use Rattle.reql_value_spec.specs.Meant.{Given}
use Rattle.reql_operand.specs.Seen.{meant, shown, all_shown}
use Rattle.reql_operand.specs.Tables.{seen}
use Rattle.reql_apply_seq.specs.Orders.{ordered_as}
use Rattle.reql_apply_seq.proofs.ordering.order_by.Goals as goal

pub returns : goal.returns
returns g c = λ calls h.
    let w = seen g.V.TableView.documents g.V.TableView.indexes g.V.TableView.entries c.args.world.now in
    subst (λ (o : Option Given). Gives (meant w) c.order_as.result (ordered_as w calls (shown w c.args.source.now) (all_shown w c.args.keys.now) o)) (c.find_choice.ensures w) (c.order_as.ensures calls h)
