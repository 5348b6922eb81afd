use Rattle.reql_operand.specs.Seen.{all_chosen}
use Rattle.reql_operand.specs.Tables.{seen}
use Rattle.reql_apply.proofs.operators.by_grouping.Goals as goal

pub returns-in-Total : goal.returns-in-Total
returns-in-Total g c calls h =
    let w = seen g.V.TableView.documents g.V.TableView.indexes g.V.TableView.entries c.args.world.now in
    rw c.in-Total.is (c.one.ensures w _ (c.total.ensures calls h (all_chosen w c.args.opts.now)))

pub returns-in-Ungroup : goal.returns-in-Ungroup
returns-in-Ungroup g c calls h =
    let w = seen g.V.TableView.documents g.V.TableView.indexes g.V.TableView.entries c.args.world.now in
    rw c.in-Ungroup.is (c.array.ensures w _ (c.ungroup.ensures w calls (all_chosen w c.args.opts.now)))

pub returns-in-InnerJoin : goal.returns-in-InnerJoin
returns-in-InnerJoin g c calls h =
    let w = seen g.V.TableView.documents g.V.TableView.indexes g.V.TableView.entries c.args.world.now in
    rw c.in-InnerJoin.is (c.join.ensures calls h (all_chosen w c.args.opts.now))

pub returns-in-OuterJoin : goal.returns-in-OuterJoin
returns-in-OuterJoin g c calls h =
    let w = seen g.V.TableView.documents g.V.TableView.indexes g.V.TableView.entries c.args.world.now in
    rw c.in-OuterJoin.is (c.join-in-OuterJoin.ensures calls h (all_chosen w c.args.opts.now))

pub returns-in-Zip : goal.returns-in-Zip
returns-in-Zip g c calls h =
    let w = seen g.V.TableView.documents g.V.TableView.indexes g.V.TableView.entries c.args.world.now in
    rw c.in-Zip.is (c.zip.ensures calls (all_chosen w c.args.opts.now))

pub returns-in-Group : goal.returns-in-Group
returns-in-Group g c calls h =
    let w = seen g.V.TableView.documents g.V.TableView.indexes g.V.TableView.entries c.args.world.now in
    rw c.in-Group.is (c.grouped_value.ensures w _ (c.group_rule.ensures calls h))

pub returns-in-EqJoin : goal.returns-in-EqJoin
returns-in-EqJoin g c calls h =
    let w = seen g.V.TableView.documents g.V.TableView.indexes g.V.TableView.entries c.args.world.now in
    rw c.in-EqJoin.is (c.eq_join.ensures calls h)
