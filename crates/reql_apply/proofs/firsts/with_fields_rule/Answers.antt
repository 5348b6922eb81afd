use Rattle.reql_value_spec.specs.Fields.{with_fields}
use Rattle.reql_operand.specs.Seen.{shown, all_shown}
use Rattle.reql_operand.specs.Tables.{seen}
use Rattle.reql_apply.proofs.Headed.{gives_like_first}
use Rattle.reql_apply.proofs.firsts.with_fields_rule.Goals as goal

pub returns-in-len1-up : goal.returns-in-len1-up
returns-in-len1-up g c calls opts =
    let w = seen g.V.TableView.documents g.V.TableView.indexes g.V.TableView.entries c.args.world.now in
    gives_like_first with_fields w calls opts (shown w) c.args.args.now c.source-item.result _ c.in-len1-up.len_at_least c.source-item.is
    (c.like_source.ensures w (with_fields w calls (all_shown w c.args.args.now) opts) (c.with_fields.ensures calls opts))
