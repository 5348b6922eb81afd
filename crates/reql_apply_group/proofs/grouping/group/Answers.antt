use Rattle.std.proofs.Common.{List}
use Rattle.reql_datum.specs.Plain.{Plain}
use Rattle.reql_value_spec.specs.Wanted.{as_sequence}
use Rattle.reql_operand.specs.Seen.{shown, all_shown, all_chosen}
use Rattle.reql_operand.specs.Tables.{seen}
use Rattle.reql_apply_group.specs.Grouped.{groups_of}
use Rattle.reql_apply_group.proofs.Steps.{then_gives}
use Rattle.reql_apply_group.proofs.grouping.group.Goals as goal

pub returns : goal.returns
returns g c calls answers =
    let w = seen g.V.TableView.documents g.V.TableView.indexes g.V.TableView.entries c.args.world.now in
    then_gives _ c.listed.result (as_sequence w (shown w c.args.source.now)) c.in_ok-items.items (λ (ds : List Plain). groups_of w calls (shown w c.args.source.now) (all_shown w c.args.keys.now) ds (all_chosen w c.args.opts.now)) c.in_ok-items.ensures (c.listed.ensures _ (c.group_items-groups.ensures calls answers))
