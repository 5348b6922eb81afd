use Rattle.std.proofs.Common.{sym, subst}
use Rattle.reql_datum.specs.Answer.{Answer}
use Rattle.reql_datum.specs.Outcome.{Gives}
use Rattle.reql_value_spec.specs.Meant.{Meant, meant_of}
use Rattle.reql_operand.specs.Seen.{meant, shown, all_shown}
use Rattle.reql_operand.specs.Tables.{seen}
use Rattle.reql_apply_seq.proofs.Onwards.{named_order}
use Rattle.reql_apply_seq.proofs.ordering.order_by_name.Goals as goal

pub returns-in-Some : goal.returns-in-Some
returns-in-Some g c = λ calls h ds.
    let w = seen g.V.TableView.documents g.V.TableView.indexes g.V.TableView.entries c.args.world.now in
    let named = named_order w calls (meant_of (shown w c.args.source.now)) (all_shown w c.args.keys.now) ds (shown w c.args.index.now) c.in-Some.name.now c.falls.result (sym (c.in-Some.ensures w)) (c.falls.ensures.shown w) in
    subst (λ (r : Answer Meant). Gives (meant w) c.order_by_index.result r) (sym named) (c.order_by_index.ensures calls h ds)
