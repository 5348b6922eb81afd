use Rattle.std.proofs.Common.{rules}
use Rattle.reql_datum.specs.View.{plain}
use Rattle.reql_operand.specs.Seen.{shown}
use Rattle.reql_apply_path.proofs.Walked.{merged_step, merged_fails, merged_done}
use Rattle.reql_apply_path.proofs.merging.merged_on.Goals as goal

pub returns-in_err-next : goal.returns-in_err-next
returns-in_err-next g c w calls answers =
    let fails = merged_fails calls (shown w) c.args.args.now c.loop-arg.arg-index c.arg-item.result (plain c.loop-arg.so_far) c.in_err-next.field-0.0 _
    c.loop-arg-test.true c.arg-item.is (c.in_err-next.ensures w calls answers) (c.loop-arg.invariant w calls answers) in
    search (rules, fails)

pub loop-arg-preserved : goal.loop-arg-preserved
loop-arg-preserved g c w calls answers =
    merged_step calls (shown w) c.args.args.now c.loop-arg.arg-index c.arg-item.result (plain c.loop-arg.so_far) _ _
    c.loop-arg-test.true c.arg-item.is (c.in_ok-next.ensures w calls answers) (c.loop-arg.invariant w calls answers)

pub returns : goal.returns
returns g c w calls answers = merged_done calls (shown w) c.args.args.now c.loop-arg.arg-index (plain c.loop-arg.so_far) _ c.loop-arg-test.false (c.loop-arg.invariant w calls answers)
