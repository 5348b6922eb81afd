use Rattle.std.proofs.Common.{◌≡◌, refl, ap, false, []}
use Rattle.std.specs.Option.{unwrap_or}
use Rattle.reql_datum.specs.declared.datum.Datum.TheVariants.{Low, High}
use Rattle.reql_term.specs.declared.range.Bound.{Bound}
use Rattle.reql_operand.specs.Tables.{view, seen}
use Rattle.reql_apply_seq.specs.Indexes.{entries_by, entries_any}
use Rattle.reql_apply_seq.specs.declared.spans.Span.{Span}
use Rattle.reql_apply_seq.proofs.Entries.{span_stands}
use Rattle.reql_operand.proofs.Whole.{any_between}
use Rattle.reql_apply_seq.proofs.spans.table_by.Goals as goal

pub returns : goal.returns
returns g c =
    let w = seen g.V.TableView.documents g.V.TableView.indexes g.V.TableView.entries c.args.world.now in
    let v = view g.V.TableView.documents g.V.TableView.indexes g.V.TableView.entries c.in_ok-table.table.now in
    let index = c.in_ok-index.index in
    let low : Bound = record { value = Low; is_open = false } in
    let high : Bound = record { value = High; is_open = false } in
    let span : Span = record { slot = c.args.slot; index = index; low = low; high = high } in
    span_stands w c.args.slot v c.args.name.now (entries_any v index) (λ es. es) span c.in_ok-table.ensures.found c.in_ok-index.ensures.there refl
    (ap (λ o. unwrap_or o []) (any_between (entries_by v index)))
