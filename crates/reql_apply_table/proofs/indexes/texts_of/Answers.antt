use Rattle.std.proofs.Common.{rules}
use Rattle.reql_value_spec.specs.Wanted.{as_text}
use Rattle.reql_operand.specs.Seen.{shown}
use Rattle.reql_operand.proofs.Steps.{each_step, each_fails, each_done}
use Rattle.reql_apply_table.proofs.indexes.texts_of.Goals as goal

pub returns-in_err-name : goal.returns-in_err-name
returns-in_err-name c w =
    let fails = each_fails as_text (shown w) c.args.args.now c.loop-arg.arg-index c.arg-item.result c.in_err-name.field-0.0 c.loop-arg.names.items _
    c.loop-arg-test.true c.arg-item.is (c.in_err-name.ensures w) (c.loop-arg.invariant w) in
    search (rules, fails)

pub loop-arg-preserved : goal.loop-arg-preserved
loop-arg-preserved c w =
    each_step as_text (shown w) c.args.args.now c.loop-arg.arg-index c.arg-item.result c.in_ok-name.name.now c.loop-arg.names.items _ _
    c.loop-arg-test.true c.arg-item.is (c.in_ok-name.ensures w) (search rules) (c.loop-arg.invariant w)

pub returns : goal.returns
returns c w = each_done as_text (shown w) c.args.args.now c.loop-arg.arg-index c.loop-arg.names.items _ c.loop-arg-test.false (c.loop-arg.invariant w)
