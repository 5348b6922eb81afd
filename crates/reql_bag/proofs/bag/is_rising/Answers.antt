use Rattle.std.proofs.Common.{◌+◌, drop, ap, sym, ◌∙◌}
use Rattle.std.specs.Ordering.{is_lt}
use Rattle.reql_datum.specs.View.{plain}
use Rattle.reql_bag.proofs.Ordered.{rising_more}
use Rattle.reql_bag.proofs.bag.is_rising.Goals as goal

pub loop-next-preserved : goal.loop-next-preserved
loop-next-preserved c = λ up.
    c.loop-next.invariant
    (rising_more (plain c.loop-next.last.now) (plain c.in-Some-at.next.now) (drop (c.loop-next.place + 1) c.args.items.now) (drop c.loop-next.place c.args.items.now) c.in-Some-at.ensures.rest
    (ap is_lt (sym c.compare.ensures.answer) ∙ sym c.is_lt.ensures ∙ c.if-is_lt.false) up)
