use Rattle.std.proofs.Common.{rules}
use Rattle.reql_datum.specs.View.{plain}
use Rattle.reql_operand.specs.Seen.{shown}
use Rattle.reql_operand.proofs.Steps.{each_step, each_fails, each_done}
use Rattle.reql_apply_path.specs.Merged.{pattern_given}
use Rattle.reql_apply_path.proofs.Good.{good_after}
use Rattle.reql_apply_path.proofs.having.documents.Goals as goal

pub returns-in_err-d-clause-items : goal.returns-in_err-d-clause-items
returns-in_err-d-clause-items c w =
    let fails = each_fails pattern_given (shown w) c.args.args.now c.loop-arg.arg-index c.arg-item.result c.in_err-d.field-0.0 c.loop-arg.items _
    c.loop-arg-test.true c.arg-item.is (c.in_err-d.ensures.pattern w) (c.loop-arg.invariant.rest w) in
    search (rules, fails)

pub loop-arg-preserved : goal.loop-arg-preserved
loop-arg-preserved c = record {
  rest = λ w. each_step pattern_given (shown w) c.args.args.now c.loop-arg.arg-index c.arg-item.result (plain c.in_ok-d.d) c.loop-arg.items _ _
      c.loop-arg-test.true c.arg-item.is (c.in_ok-d.ensures.pattern w) (search rules) (c.loop-arg.invariant.rest w);
  good = good_after c.loop-arg.items c.push.new.self (plain c.in_ok-d.d) c.in_ok-push.ensures.items c.loop-arg.invariant.good c.in_ok-d.ensures.good;
}

pub returns-clause-items : goal.returns-clause-items
returns-clause-items c w = each_done pattern_given (shown w) c.args.args.now c.loop-arg.arg-index c.loop-arg.items _ c.loop-arg-test.false (c.loop-arg.invariant.rest w)
