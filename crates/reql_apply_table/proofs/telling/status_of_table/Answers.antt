use Rattle.std.proofs.Common.{◌≡◌, IfOk, subst}
use Rattle.reql_datum.specs.View.{plain}
use Rattle.reql_rules.specs.Admin.{About, table_status}
use Rattle.reql_value_spec.specs.Tables.{index_names}
use Rattle.reql_operand.specs.Tables.{view}
use Rattle.reql_apply_table.proofs.telling.status_of_table.Goals as goal

pub returns : goal.returns
returns g c =
    let names = index_names (view g.V.TableView.documents g.V.TableView.indexes g.V.TableView.entries c.args.table.now) in
    subst (λ (t : About). IfOk c.table_status.result (λ d. plain d ≡ table_status t)) c.in_ok-about.ensures (c.table_status.ensures names)
