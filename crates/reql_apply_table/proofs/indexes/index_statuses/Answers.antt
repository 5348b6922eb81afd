use Rattle.std.proofs.Common.{ℕ, List}
use Rattle.reql_datum.specs.Plain.{Plain}
use Rattle.reql_value_spec.specs.Wanted.{as_table}
use Rattle.reql_value_spec.specs.World.{View}
use Rattle.reql_operand.specs.Seen.{shown, all_shown}
use Rattle.reql_operand.specs.Tables.{view, seen}
use Rattle.reql_apply_table.specs.Indexes.{statuses_asked}
use Rattle.reql_apply_table.proofs.Slices.{then_gives}
use Rattle.reql_apply_table.proofs.indexes.index_statuses.Goals as goal

pub returns : goal.returns
returns g c calls opts =
    let w = seen g.V.TableView.documents g.V.TableView.indexes g.V.TableView.entries c.args.world.now in
    let v = view g.V.TableView.documents g.V.TableView.indexes g.V.TableView.entries c.in_ok-found.found.now in
    then_gives (λ (items : List Plain). items) c.statuses_in.result (as_table w (shown w c.args.table.now)) (c.in_ok-found.found.now.slot, v) (λ (t : ℕ × View). statuses_asked t.1 (all_shown w c.args.names.now)) c.in_ok-found.ensures (c.statuses_in.ensures w)
