use Rattle.std.proofs.Common.{rules, ap, ◌∙◌, map}
use Rattle.std.proofs.lemmas.List.{map-append}
use Rattle.reql_operand.specs.Seen.{shown, all_shown}
use Rattle.reql_argument_order.proofs.Places.{no_argument, on_argument}
use Rattle.reql_argument_order.proofs.taken.arguments.Goals as goal

pub returns-in_err-arg : goal.returns-in_err-arg
returns-in_err-arg g c w how ss vars lent =
    let fails = no_argument how ss c.loop-place.place w vars c.in_err-arg.field-0.0 (all_shown w c.loop-place.found.items) _ (rw lent.counted at c.loop-place-test.true) (lent.answers _ _ c.in_err-arg.ensures) (c.loop-place.invariant w how ss vars lent) in
    search (rules, fails)

pub loop-place-preserved : goal.loop-place-preserved
loop-place-preserved g c w how ss vars lent =
    on_argument how ss c.loop-place.place w vars (shown w c.in_ok-arg.arg) (all_shown w c.loop-place.found.items) _ _ (rw lent.counted at c.loop-place-test.true) (lent.answers _ _ c.in_ok-arg.ensures)
    (ap (map (shown w)) c.in_ok-push.ensures.items ∙ map-append (shown w) _ _) (c.loop-place.invariant w how ss vars lent)
