use Rattle.reql_operand.specs.Seen.{all_chosen}
use Rattle.reql_operand.specs.Tables.{seen}
use Rattle.reql_apply.proofs.operators.by_fields.Goals as goal

pub returns-in-GetField : goal.returns-in-GetField
returns-in-GetField g c calls h =
    let w = seen g.V.TableView.documents g.V.TableView.indexes g.V.TableView.entries c.args.world.now in
    rw c.in-GetField.is (c.get_field_rule.ensures calls (all_chosen w c.args.opts.now))

pub returns-in-Bracket : goal.returns-in-Bracket
returns-in-Bracket g c calls h =
    let w = seen g.V.TableView.documents g.V.TableView.indexes g.V.TableView.entries c.args.world.now in
    rw c.in-Bracket.is (c.bracket.ensures calls (all_chosen w c.args.opts.now))

pub returns-in-HasFields : goal.returns-in-HasFields
returns-in-HasFields g c calls h =
    let w = seen g.V.TableView.documents g.V.TableView.indexes g.V.TableView.entries c.args.world.now in
    rw c.in-HasFields.is (c.has_fields_rule.ensures calls (all_chosen w c.args.opts.now))

pub returns-in-Pluck : goal.returns-in-Pluck
returns-in-Pluck g c calls h =
    let w = seen g.V.TableView.documents g.V.TableView.indexes g.V.TableView.entries c.args.world.now in
    rw c.in-Pluck.is (c.pluck_rule.ensures calls (all_chosen w c.args.opts.now))

pub returns-in-Without : goal.returns-in-Without
returns-in-Without g c calls h =
    let w = seen g.V.TableView.documents g.V.TableView.indexes g.V.TableView.entries c.args.world.now in
    rw c.in-Without.is (c.without_rule.ensures calls (all_chosen w c.args.opts.now))

pub returns-in-Merge : goal.returns-in-Merge
returns-in-Merge g c calls h =
    let w = seen g.V.TableView.documents g.V.TableView.indexes g.V.TableView.entries c.args.world.now in
    rw c.in-Merge.is (c.merge_rule.ensures calls (all_chosen w c.args.opts.now) h)

pub returns-in-Keys : goal.returns-in-Keys
returns-in-Keys g c calls h =
    let w = seen g.V.TableView.documents g.V.TableView.indexes g.V.TableView.entries c.args.world.now in
    rw c.in-Keys.is (c.one.ensures w _ (c.keys_rule.ensures w calls (all_chosen w c.args.opts.now)))

pub returns-in-Values : goal.returns-in-Values
returns-in-Values g c calls h =
    let w = seen g.V.TableView.documents g.V.TableView.indexes g.V.TableView.entries c.args.world.now in
    rw c.in-Values.is (c.one-in-Values.ensures w _ (c.values_rule.ensures w calls (all_chosen w c.args.opts.now)))

pub returns-in-Object : goal.returns-in-Object
returns-in-Object g c calls h =
    let w = seen g.V.TableView.documents g.V.TableView.indexes g.V.TableView.entries c.args.world.now in
    rw c.in-Object.is (c.one-in-Object.ensures w _ (c.object_rule.ensures w calls (all_chosen w c.args.opts.now)))

pub returns-in-WithFields : goal.returns-in-WithFields
returns-in-WithFields g c calls h =
    let w = seen g.V.TableView.documents g.V.TableView.indexes g.V.TableView.entries c.args.world.now in
    rw c.in-WithFields.is (c.with_fields_rule.ensures calls (all_chosen w c.args.opts.now))
