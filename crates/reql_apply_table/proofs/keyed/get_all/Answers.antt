use Rattle.std.proofs.Common.{ℕ}
use Rattle.reql_value_spec.specs.Wanted.{as_table}
use Rattle.reql_value_spec.specs.World.{View}
use Rattle.reql_operand.specs.Seen.{meant, shown, all_shown, all_chosen}
use Rattle.reql_operand.specs.Tables.{view, seen}
use Rattle.reql_apply_table.specs.Sources.{rows_at}
use Rattle.reql_apply_table.proofs.Slices.{then_gives}
use Rattle.reql_apply_table.proofs.keyed.get_all.Goals as goal

pub returns : goal.returns
returns g c calls =
    let w = seen g.V.TableView.documents g.V.TableView.indexes g.V.TableView.entries c.args.world.now in
    let v = view g.V.TableView.documents g.V.TableView.indexes g.V.TableView.entries c.in_ok-found.found.now in
    then_gives (meant w) c.rows_in.result (as_table w (shown w c.args.table.now)) (c.in_ok-found.found.now.slot, v) (λ (t : ℕ × View). rows_at t.0 t.1 (all_shown w c.args.keys.now) (all_chosen w c.args.opts.now)) c.in_ok-found.ensures (c.rows_in.ensures w)
