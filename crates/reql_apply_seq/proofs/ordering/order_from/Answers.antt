use Rattle.reql_operand.specs.Seen.{shown}
use Rattle.reql_operand.specs.Tables.{seen}
use Rattle.reql_apply_seq.specs.Sources.{elements}
use Rattle.reql_apply_seq.proofs.ordering.order_from.Goals as goal

pub returns-in-None : goal.returns-in-None
returns-in-None g c = λ calls h. rw c.in-None.is (c.order_by_keys.ensures calls h)

pub returns-in-Some : goal.returns-in-Some
returns-in-Some g c = λ calls h.
    let w = seen g.V.TableView.documents g.V.TableView.indexes g.V.TableView.entries c.args.world.now in
    rw c.in-Some.is (c.order_by_name.ensures calls h (elements w c.args.all))
