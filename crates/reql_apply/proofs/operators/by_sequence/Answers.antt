use Rattle.reql_operand.specs.Seen.{all_chosen}
use Rattle.reql_operand.specs.Tables.{seen}
use Rattle.reql_apply.proofs.operators.by_sequence.Goals as goal

pub returns-in-Count : goal.returns-in-Count
returns-in-Count g c calls h =
    let w = seen g.V.TableView.documents g.V.TableView.indexes g.V.TableView.entries c.args.world.now in
    rw c.in-Count.is (c.one-in-Count.ensures w _ (c.count.ensures calls h (all_chosen w c.args.opts.now)))

pub returns-in-Contains : goal.returns-in-Contains
returns-in-Contains g c calls h =
    let w = seen g.V.TableView.documents g.V.TableView.indexes g.V.TableView.entries c.args.world.now in
    rw c.in-Contains.is (c.one-in-Contains.ensures w _ (c.contains.ensures calls h (all_chosen w c.args.opts.now)))

pub returns-in-Reduce : goal.returns-in-Reduce
returns-in-Reduce g c calls h =
    let w = seen g.V.TableView.documents g.V.TableView.indexes g.V.TableView.entries c.args.world.now in
    rw c.in-Reduce.is (c.one.ensures w _ (c.reduce.ensures calls h (all_chosen w c.args.opts.now)))

pub returns-in-Map : goal.returns-in-Map
returns-in-Map g c calls h =
    let w = seen g.V.TableView.documents g.V.TableView.indexes g.V.TableView.entries c.args.world.now in
    rw c.in-Map.is (c.map.ensures calls h (all_chosen w c.args.opts.now))

pub returns-in-Filter : goal.returns-in-Filter
returns-in-Filter g c calls h =
    let w = seen g.V.TableView.documents g.V.TableView.indexes g.V.TableView.entries c.args.world.now in
    rw c.in-Filter.is (c.filter.ensures calls h)

pub returns-in-OffsetsOf : goal.returns-in-OffsetsOf
returns-in-OffsetsOf g c calls h =
    let w = seen g.V.TableView.documents g.V.TableView.indexes g.V.TableView.entries c.args.world.now in
    rw c.in-OffsetsOf.is (c.offsets_of.ensures calls h (all_chosen w c.args.opts.now))

pub returns-in-ConcatMap : goal.returns-in-ConcatMap
returns-in-ConcatMap g c calls h =
    let w = seen g.V.TableView.documents g.V.TableView.indexes g.V.TableView.entries c.args.world.now in
    rw c.in-ConcatMap.is (c.concat_map.ensures calls h (all_chosen w c.args.opts.now))

pub returns-in-OrderBy : goal.returns-in-OrderBy
returns-in-OrderBy g c calls h =
    let w = seen g.V.TableView.documents g.V.TableView.indexes g.V.TableView.entries c.args.world.now in
    rw c.in-OrderBy.is (c.order_by_rule.ensures calls h)
