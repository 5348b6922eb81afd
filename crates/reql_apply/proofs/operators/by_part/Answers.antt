use Rattle.reql_operand.specs.Seen.{all_chosen}
use Rattle.reql_operand.specs.Tables.{seen}
use Rattle.reql_apply.proofs.operators.by_part.Goals as goal

pub returns-in-Skip : goal.returns-in-Skip
returns-in-Skip g c calls =
    let w = seen g.V.TableView.documents g.V.TableView.indexes g.V.TableView.entries c.args.world.now in
    rw c.in-Skip.is (c.skip.ensures calls (all_chosen w c.args.opts.now))

pub returns-in-Limit : goal.returns-in-Limit
returns-in-Limit g c calls =
    let w = seen g.V.TableView.documents g.V.TableView.indexes g.V.TableView.entries c.args.world.now in
    rw c.in-Limit.is (c.limit.ensures calls (all_chosen w c.args.opts.now))

pub returns-in-IsEmpty : goal.returns-in-IsEmpty
returns-in-IsEmpty g c calls =
    let w = seen g.V.TableView.documents g.V.TableView.indexes g.V.TableView.entries c.args.world.now in
    rw c.in-IsEmpty.is (c.one-in-IsEmpty.ensures w _ (c.is_empty.ensures calls (all_chosen w c.args.opts.now)))

pub returns-in-Union : goal.returns-in-Union
returns-in-Union g c calls =
    let w = seen g.V.TableView.documents g.V.TableView.indexes g.V.TableView.entries c.args.world.now in
    rw c.in-Union.is (c.union.ensures calls (all_chosen w c.args.opts.now))

pub returns-in-Nth : goal.returns-in-Nth
returns-in-Nth g c calls =
    let w = seen g.V.TableView.documents g.V.TableView.indexes g.V.TableView.entries c.args.world.now in
    rw c.in-Nth.is (c.one.ensures w _ (c.nth_rule.ensures calls (all_chosen w c.args.opts.now)))

pub returns-in-Range : goal.returns-in-Range
returns-in-Range g c calls =
    let w = seen g.V.TableView.documents g.V.TableView.indexes g.V.TableView.entries c.args.world.now in
    rw c.in-Range.is (c.stream.ensures w _ (c.range.ensures w calls (all_chosen w c.args.opts.now)))

pub returns-in-Distinct : goal.returns-in-Distinct
returns-in-Distinct g c calls =
    let w = seen g.V.TableView.documents g.V.TableView.indexes g.V.TableView.entries c.args.world.now in
    rw c.in-Distinct.is (c.distinct.ensures calls)

pub returns-in-Slice : goal.returns-in-Slice
returns-in-Slice g c calls =
    let w = seen g.V.TableView.documents g.V.TableView.indexes g.V.TableView.entries c.args.world.now in
    rw c.in-Slice.is (c.slice_rule.ensures calls)
