use Rattle.std.proofs.Common.{rules}
use Rattle.reql_datum.specs.View.{plain}
use Rattle.reql_value_spec.specs.Wanted.{as_datum}
use Rattle.reql_operand.specs.Seen.{shown}
use Rattle.reql_operand.proofs.Steps.{each_step, each_fails, each_done}
use Rattle.reql_operand.proofs.documents.as_data.Goals as goal

pub returns-in_err-d : goal.returns-in_err-d
returns-in_err-d c w =
    let fails = each_fails as_datum (shown w) c.args.args.now c.loop-arg.arg-index c.arg-item.result c.in_err-d.field-0.0 c.loop-arg.items _
    c.loop-arg-test.true c.arg-item.is (c.in_err-d.ensures w) (c.loop-arg.invariant w) in
    search (rules, fails)

pub loop-arg-preserved : goal.loop-arg-preserved
loop-arg-preserved c w =
    each_step as_datum (shown w) c.args.args.now c.loop-arg.arg-index c.arg-item.result (plain c.in_ok-d.d) c.loop-arg.items _ _
    c.loop-arg-test.true c.arg-item.is (c.in_ok-d.ensures w) (search rules) (c.loop-arg.invariant w)

pub returns : goal.returns
returns c w = each_done as_datum (shown w) c.args.args.now c.loop-arg.arg-index c.loop-arg.items _ c.loop-arg-test.false (c.loop-arg.invariant w)
