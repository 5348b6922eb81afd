use Rattle.reql_operand.specs.Seen.{all_shown, all_chosen}
use Rattle.reql_operand.specs.Tables.{seen}
use Rattle.reql_apply.proofs.operators.by_scalar.Goals as goal

pub returns-in-MakeArray : goal.returns-in-MakeArray
returns-in-MakeArray g c calls h =
    let w = seen g.V.TableView.documents g.V.TableView.indexes g.V.TableView.entries c.args.world.now in
    rw c.in-MakeArray.is (c.array.ensures w _ (c.make_array.ensures w calls (all_chosen w c.args.opts.now)))

pub returns-in-Error : goal.returns-in-Error
returns-in-Error g c calls h =
    let w = seen g.V.TableView.documents g.V.TableView.indexes g.V.TableView.entries c.args.world.now in
    rw c.in-Error.is (c.one.ensures w _ (c.raise.ensures w calls (all_chosen w c.args.opts.now)))

pub returns-in-Comparison : goal.returns-in-Comparison
returns-in-Comparison g c calls h =
    let w = seen g.V.TableView.documents g.V.TableView.indexes g.V.TableView.entries c.args.world.now in
    rw c.in-Comparison.is (c.one-in-Comparison.ensures w _ (c.comparison.ensures w calls (all_chosen w c.args.opts.now)))

pub returns-in-Not : goal.returns-in-Not
returns-in-Not g c calls h =
    let w = seen g.V.TableView.documents g.V.TableView.indexes g.V.TableView.entries c.args.world.now in
    rw c.in-Not.is (c.one-in-Not.ensures w _ (c.negation.ensures w calls (all_chosen w c.args.opts.now)))

pub returns-in-Arithmetic : goal.returns-in-Arithmetic
returns-in-Arithmetic g c calls h =
    let w = seen g.V.TableView.documents g.V.TableView.indexes g.V.TableView.entries c.args.world.now in
    rw c.in-Arithmetic.is (c.one-in-Arithmetic.ensures w _ (c.arithmetic.ensures w calls (all_chosen w c.args.opts.now)))

pub returns-in-CoerceTo : goal.returns-in-CoerceTo
returns-in-CoerceTo g c calls h =
    let w = seen g.V.TableView.documents g.V.TableView.indexes g.V.TableView.entries c.args.world.now in
    rw c.in-CoerceTo.is (c.one-in-CoerceTo.ensures w _ (c.coerce_to.ensures calls (all_chosen w c.args.opts.now)))

pub returns-in-TypeOf : goal.returns-in-TypeOf
returns-in-TypeOf g c calls h =
    let w = seen g.V.TableView.documents g.V.TableView.indexes g.V.TableView.entries c.args.world.now in
    rw c.in-TypeOf.is (c.one-in-TypeOf.ensures w _ (c.type_of.ensures w calls (all_chosen w c.args.opts.now)))

pub returns-in-Funcall : goal.returns-in-Funcall
returns-in-Funcall g c calls h =
    let w = seen g.V.TableView.documents g.V.TableView.indexes g.V.TableView.entries c.args.world.now in
    rw c.in-Funcall.is (c.funcall.ensures w calls (all_chosen w c.args.opts.now) h)

pub returns-in-Literal : goal.returns-in-Literal
returns-in-Literal g c calls h =
    let w = seen g.V.TableView.documents g.V.TableView.indexes g.V.TableView.entries c.args.world.now in
    rw c.in-Literal.is (c.one-in-Literal.ensures w _ (c.literal.ensures w calls (all_chosen w c.args.opts.now)))

pub returns-in-Minval : goal.returns-in-Minval
returns-in-Minval g c calls h =
    let w = seen g.V.TableView.documents g.V.TableView.indexes g.V.TableView.entries c.args.world.now in
    rw c.in-Minval.is (c.one-in-Minval.ensures w _ (c.constant.ensures w calls (all_shown w c.args.args.now) (all_chosen w c.args.opts.now)))

pub returns-in-Maxval : goal.returns-in-Maxval
returns-in-Maxval g c calls h =
    let w = seen g.V.TableView.documents g.V.TableView.indexes g.V.TableView.entries c.args.world.now in
    rw c.in-Maxval.is (c.one-in-Maxval.ensures w _ (c.constant-in-Maxval.ensures w calls (all_shown w c.args.args.now) (all_chosen w c.args.opts.now)))

pub returns-in-EpochTime : goal.returns-in-EpochTime
returns-in-EpochTime g c calls h =
    let w = seen g.V.TableView.documents g.V.TableView.indexes g.V.TableView.entries c.args.world.now in
    rw c.in-EpochTime.is (c.one-in-EpochTime.ensures w _ (c.epoch_time.ensures w calls (all_chosen w c.args.opts.now)))

pub returns-in-ToEpochTime : goal.returns-in-ToEpochTime
returns-in-ToEpochTime g c calls h =
    let w = seen g.V.TableView.documents g.V.TableView.indexes g.V.TableView.entries c.args.world.now in
    rw c.in-ToEpochTime.is (c.one-in-ToEpochTime.ensures w _ (c.to_epoch_time.ensures w calls (all_chosen w c.args.opts.now)))
