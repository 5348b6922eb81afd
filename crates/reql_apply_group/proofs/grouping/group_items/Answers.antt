use Rattle.std.proofs.Common.{Option, rules}
use Rattle.reql_rules.specs.Lists.{Bytes}
use Rattle.reql_value_spec.specs.Groups.{group_in}
use Rattle.reql_value_spec.specs.Meant.{meant_of}
use Rattle.reql_value_spec.specs.Wanted.{index_text}
use Rattle.reql_operand.specs.Seen.{shown, all_shown, all_chosen}
use Rattle.reql_operand.specs.Tables.{seen}
use Rattle.reql_operand.proofs.Steps.{fails_on}
use Rattle.reql_apply_group.proofs.Steps.{then_gives}
use Rattle.reql_apply_group.proofs.grouping.group_items.Goals as goal

pub returns-in_err-index : goal.returns-in_err-index
returns-in_err-index g c calls answers =
    let w = seen g.V.TableView.documents g.V.TableView.indexes g.V.TableView.entries c.args.world.now in
    let fails = fails_on c.in_err-index.field-0.0 (index_text (all_chosen w c.args.opts.now)) (λ (i : Option Bytes). group_in w calls (meant_of (shown w c.args.source.now)) (all_shown w c.args.keys.now) c.args.items.now i) (c.in_err-index.ensures w) in
    search (rules, fails)

pub returns : goal.returns
returns g c calls answers =
    let w = seen g.V.TableView.documents g.V.TableView.indexes g.V.TableView.entries c.args.world.now in
    then_gives _ c.group_in.result (index_text (all_chosen w c.args.opts.now)) _ (λ (i : Option Bytes). group_in w calls (meant_of (shown w c.args.source.now)) (all_shown w c.args.keys.now) c.args.items.now i) (c.in_ok-index.ensures w) (c.group_in.ensures calls answers)
