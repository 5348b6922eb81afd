use Rattle.std.proofs.Common.{rules, ◌∙◌, drop, Ok, ap}
use Rattle.reql_value_spec.specs.Lazy.{branches}
use Rattle.reql_operand.specs.Seen.{meant}
use Rattle.reql_argument_order.proofs.Places.{last_arm, not_last}
use Rattle.reql_argument_order.proofs.Steps.{no_test, no_truth, on_true, on_false}
use Rattle.reql_argument_order.proofs.chains.branches.Goals as goal

pub returns-then-place-count : goal.returns-then-place-count
returns-then-place-count g c w ss vars lent =
    rw (c.loop-place.invariant w ss vars lent ∙ last_arm ss c.loop-place.place w vars (c.if-place-count.true ∙ lent.counted)) (lent.answers _ _ c.eval.ensures)

pub returns-in_err-test : goal.returns-in_err-test
returns-in_err-test g c w ss vars lent =
    let fails = no_test ss c.loop-place.place w vars c.in_err-test.field-0.0 (branches (drop 2 ss) w vars)
    (not_last ss c.loop-place.place c.args.count lent.counted c.loop-place-test.true c.if-place-count.false) (lent.answers _ _ c.in_err-test.ensures) (c.loop-place.invariant w ss vars lent) in
    search (rules, fails)

pub returns-in_err-passed : goal.returns-in_err-passed
returns-in_err-passed g c w ss vars lent =
    let fails = no_truth ss c.loop-place.place w vars (meant w c.in_ok-test.test) c.in_err-passed.field-0.0 (branches (drop 2 ss) w vars)
    (not_last ss c.loop-place.place c.args.count lent.counted c.loop-place-test.true c.if-place-count.false) (lent.answers _ _ c.in_ok-test.ensures) (c.in_err-passed.ensures w) (c.loop-place.invariant w ss vars lent) in
    search (rules, fails)

pub returns-then-passed : goal.returns-then-passed
returns-then-passed g c w ss vars lent =
    rw (on_true ss c.loop-place.place w vars (meant w c.in_ok-test.test) (branches (drop 2 ss) w vars)
    (not_last ss c.loop-place.place c.args.count lent.counted c.loop-place-test.true c.if-place-count.false) (lent.answers _ _ c.in_ok-test.ensures) (c.in_ok-passed.ensures w ∙ ap Ok c.if-passed.true) (c.loop-place.invariant w ss vars lent)) (lent.answers _ _ c.eval-then-passed.ensures)

pub loop-place-preserved : goal.loop-place-preserved
loop-place-preserved g c w ss vars lent =
    on_false ss c.loop-place.place w vars (meant w c.in_ok-test.test) (branches (drop 2 ss) w vars)
    (not_last ss c.loop-place.place c.args.count lent.counted c.loop-place-test.true c.if-place-count.false) (lent.answers _ _ c.in_ok-test.ensures) (c.in_ok-passed.ensures w ∙ ap Ok c.if-passed.false) (c.loop-place.invariant w ss vars lent)
