use Rattle.std.proofs.Common.{List, rules}
use Rattle.reql_datum.specs.Plain.{Plain}
use Rattle.reql_value_spec.specs.Wanted.{as_data}
use Rattle.reql_operand.specs.Seen.{meant, all_shown, all_chosen}
use Rattle.reql_operand.specs.Tables.{view}
use Rattle.reql_operand.proofs.Steps.{fails_on}
use Rattle.reql_apply_table.specs.Sources.{rows_by}
use Rattle.reql_apply_table.proofs.Slices.{then_gives}
use Rattle.reql_apply_table.proofs.keyed.rows_in.Goals as goal

pub returns-in_err-values : goal.returns-in_err-values
returns-in_err-values g c w =
    let v = view g.V.TableView.documents g.V.TableView.indexes g.V.TableView.entries c.args.table.now in
    let fails = fails_on c.in_err-values.field-0.0 (as_data (all_shown w c.args.args.now)) (λ (ds : List Plain). rows_by c.args.table.now.slot v ds (all_chosen w c.args.opts.now)) (c.in_err-values.ensures w) in
    search (rules, fails)

pub returns : goal.returns
returns g c w =
    let v = view g.V.TableView.documents g.V.TableView.indexes g.V.TableView.entries c.args.table.now in
    then_gives (meant w) c.rows_by.result (as_data (all_shown w c.args.args.now)) c.in_ok-values.values (λ (ds : List Plain). rows_by c.args.table.now.slot v ds (all_chosen w c.args.opts.now)) (c.in_ok-values.ensures w) (c.rows_by.ensures w)
