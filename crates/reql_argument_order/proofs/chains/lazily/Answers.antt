use Rattle.std.proofs.Common.{◌≡◌, ◌<◌, ◌∙◌, arith, length, sym, Ok}
use Rattle.reql_operand.specs.Seen.{meant}
use Rattle.reql_argument_order.specs.Lent.{value_at}
use Rattle.reql_argument_order.proofs.Steps.{no_first, by_first}
use Rattle.reql_argument_order.proofs.chains.lazily.Goals as goal

pub returns-then-count-eq0 : goal.returns-then-count-eq0
returns-then-count-eq0 g c w ss vars same lent =
    rw (no_first c.args.way ss w vars (sym lent.counted ∙ c.if-count-eq0.true)) (c.of_nothing.ensures w)

pub returns : goal.returns
returns g c w ss vars same lent =
    let some : 0 < length ss = omega (arith, lent.counted, c.if-count-eq0.false) in
    let gives : value_at ss 0 w vars ≡ Ok (meant w c.in_ok-first.first) = lent.answers _ _ c.in_ok-first.ensures in
    rw (by_first c.args.way ss w vars some, gives) (c.on_others.ensures w ss vars same lent)
