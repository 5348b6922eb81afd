use Rattle.std.proofs.Common.{List}
use Rattle.reql_datum.specs.Plain.{Plain}
use Rattle.reql_term.specs.Views.{Entry}
use Rattle.reql_rules.specs.Joining.{eq_join_all}
use Rattle.reql_value_spec.specs.Called.{answer_key}
use Rattle.reql_value_spec.specs.Joins.{having}
use Rattle.reql_value_spec.specs.World.{entries_named}
use Rattle.reql_operand.specs.Seen.{shown}
use Rattle.reql_operand.specs.Tables.{view}
use Rattle.reql_apply_group.proofs.Steps.{then_gives}
use Rattle.reql_apply_group.proofs.joins.join_by_name.Goals as goal

pub returns : goal.returns
returns g c w calls means =
    let v = view g.V.TableView.documents g.V.TableView.indexes g.V.TableView.entries c.args.table.now in
    then_gives (λ (items : List Plain). items) c.join_entries.result (entries_named v c.args.name.now) _ (λ (es : List Entry). eq_join_all (answer_key calls (shown w c.args.key.now)) (having es) c.args.lefts.now) c.in_ok-_index.ensures (c.join_entries.ensures _ c.in_ok-_index.ensures w calls means)
