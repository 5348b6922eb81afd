use Rattle.std.proofs.Common.{rules, Ok, ap, ◌∙◌}
use Rattle.reql_operand.specs.Seen.{meant}
use Rattle.reql_argument_order.proofs.Places.{chain_ends}
use Rattle.reql_argument_order.proofs.Steps.{no_stop, on_stop, no_next, on_next}
use Rattle.reql_argument_order.proofs.chains.chain.Goals as goal

pub returns-in-Ok-true : goal.returns-in-Ok-true
returns-in-Ok-true g c w ss vars lent =
    on_stop c.args.at ss c.loop-place.place w vars (meant w c.loop-place.value) _ (rw lent.counted at c.loop-place-test.true) (c.in-Ok-true.ensures w ∙ ap Ok c.in-Ok-true.field-0-test) (c.loop-place.invariant w ss vars lent)

pub returns-in-Err : goal.returns-in-Err
returns-in-Err g c w ss vars lent =
    no_stop c.args.at ss c.loop-place.place w vars (meant w c.loop-place.value) c.in-Err.fault _ (rw lent.counted at c.loop-place-test.true) (c.in-Err.ensures w) (c.loop-place.invariant w ss vars lent)

pub returns-in_err-value : goal.returns-in_err-value
returns-in_err-value g c w ss vars lent =
    let fails = no_next c.args.at ss c.loop-place.place w vars (meant w c.loop-place.value) c.in_err-value.field-0.0 _ (rw lent.counted at c.loop-place-test.true) (c.in-Ok-false.ensures w ∙ ap Ok c.in-Ok-false.field-0-test) (lent.answers _ _ c.in_err-value.ensures) (c.loop-place.invariant w ss vars lent) in
    search (rules, fails)

pub loop-place-preserved : goal.loop-place-preserved
loop-place-preserved g c w ss vars lent =
    on_next c.args.at ss c.loop-place.place w vars (meant w c.loop-place.value) (meant w c.in_ok-value.value) _ (rw lent.counted at c.loop-place-test.true) (c.in-Ok-false.ensures w ∙ ap Ok c.in-Ok-false.field-0-test) (lent.answers _ _ c.in_ok-value.ensures) (c.loop-place.invariant w ss vars lent)

pub returns : goal.returns
returns g c w ss vars lent =
    chain_ends c.args.at ss c.loop-place.place w vars (meant w c.loop-place.value) _ (rw lent.counted at c.loop-place-test.false) (c.loop-place.invariant w ss vars lent)
