use Rattle.std.proofs.Common.{rules}
use Rattle.reql_datum.specs.View.{plain}
use Rattle.reql_value_spec.specs.Joins.{having}
use Rattle.reql_operand.specs.Tables.{view}
use Rattle.reql_apply_group.proofs.Joined.{rows_of_key}
use Rattle.reql_apply_group.proofs.joins.join_entries.Goals as goal

pub returns : goal.returns
returns g c es named w calls means =
    let v = view g.V.TableView.documents g.V.TableView.indexes g.V.TableView.entries c.args.table.now in
    c.join_keyed.ensures w calls means (having es) (record { answers = λ x r p. rows_of_key v c.args.name.now es (plain x.now) r named (search (rules, p)) })
