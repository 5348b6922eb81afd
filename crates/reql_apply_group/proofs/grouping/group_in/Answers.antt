use Rattle.reql_value_spec.specs.Meant.{meant_of}
use Rattle.reql_operand.specs.Seen.{shown}
use Rattle.reql_operand.specs.Tables.{seen}
use Rattle.reql_apply_group.proofs.Keys.{by_one_key, by_several_keys}
use Rattle.reql_apply_group.proofs.grouping.group_in.Goals as goal

pub returns-in-len1 : goal.returns-in-len1
returns-in-len1 g c calls means =
    let w = seen g.V.TableView.documents g.V.TableView.indexes g.V.TableView.entries c.args.world.now in
    by_one_key _ c.group_by_key.result w calls (meant_of (shown w c.args.source.now)) c.args.keys.now c.key-item.result c.args.items.now _ c.in-len1.len_at_least c.in-len1.len_below c.key-item.is (c.group_by_key.ensures w calls means)

pub returns-in-len2-up : goal.returns-in-len2-up
returns-in-len2-up g c calls means =
    let w = seen g.V.TableView.documents g.V.TableView.indexes g.V.TableView.entries c.args.world.now in
    by_several_keys _ c.group_by_keys.result w calls (meant_of (shown w c.args.source.now)) c.args.keys.now c.args.items.now _ c.in-len2-up.len_at_least (c.group_by_keys.ensures w calls means)
