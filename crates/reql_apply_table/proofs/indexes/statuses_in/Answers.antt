use Rattle.std.proofs.Common.{List, rules}
use Rattle.reql_datum.specs.Plain.{Plain}
use Rattle.reql_rules.specs.Lists.{Bytes, each}
use Rattle.reql_value_spec.specs.Tables.{index_names, or_all}
use Rattle.reql_value_spec.specs.Wanted.{as_text}
use Rattle.reql_operand.specs.Seen.{all_shown}
use Rattle.reql_operand.specs.Tables.{view}
use Rattle.reql_operand.proofs.Steps.{fails_on}
use Rattle.reql_apply_table.specs.Indexes.{status_in}
use Rattle.reql_apply_table.proofs.Slices.{then_gives}
use Rattle.reql_apply_table.proofs.indexes.statuses_in.Goals as goal

pub returns-in_err-named : goal.returns-in_err-named
returns-in_err-named g c w =
    let v = view g.V.TableView.documents g.V.TableView.indexes g.V.TableView.entries c.args.table.now in
    let fails = fails_on c.in_err-named.field-0.0 (each as_text (all_shown w c.args.args.now)) (λ (names : List Bytes). each (status_in v) (or_all (index_names v) names)) (c.in_err-named.ensures w) in
    search (rules, fails)

pub returns : goal.returns
returns g c w =
    let v = view g.V.TableView.documents g.V.TableView.indexes g.V.TableView.entries c.args.table.now in
    then_gives (λ (items : List Plain). items) c.statuses_of.result (each as_text (all_shown w c.args.args.now)) c.in_ok-named.named.items (λ (names : List Bytes). each (status_in v) (or_all (index_names v) names)) (c.in_ok-named.ensures w) (rw (c.deref.ensures.value, c.in_ok-names.ensures) at c.statuses_of.ensures)
