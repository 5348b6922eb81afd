use Rattle.std.proofs.Common.{List}
use Rattle.reql_datum.specs.Plain.{Plain}
use Rattle.reql_datum.specs.View.{plain}
use Rattle.reql_rules.specs.Totals.{total}
use Rattle.reql_value_spec.specs.Called.{answer_key}
use Rattle.reql_value_spec.specs.Wanted.{as_sequence}
use Rattle.reql_operand.specs.Seen.{shown}
use Rattle.reql_operand.specs.Tables.{seen}
use Rattle.reql_apply_group.proofs.Steps.{then_gives}
use Rattle.reql_apply_group.proofs.totals.total_by_key.Goals as goal

pub returns : goal.returns
returns g c calls answers =
    let w = seen g.V.TableView.documents g.V.TableView.indexes g.V.TableView.entries c.args.world.now in
    then_gives plain c.total_of_keys.result (as_sequence w (shown w c.args.source.now)) c.in_ok-items.items (λ (ds : List Plain). total c.args.op (answer_key calls (shown w c.args.key.now)) ds) c.in_ok-items.ensures (c.total_of_keys.ensures w calls answers)
