use Rattle.std.proofs.Common.{rules, drop}
use Rattle.reql_value_spec.specs.Sequenced.{sized}
use Rattle.reql_operand.specs.Seen.{meant}
use Rattle.reql_operand.proofs.Steps.{fails_on}
use Rattle.reql_term_analysis.specs.Ways.{tail, tail_by}
use Rattle.reql_argument_order.specs.Kept.{others}
use Rattle.reql_argument_order.proofs.chains.by_others.Goals as goal

pub returns-in_err-last : goal.returns-in_err-last
unfolding others tail
returns-in_err-last g c w ss vars same lent =
    let fails = fails_on c.in_err-last.field-0.0 (tail_by c.args.way (drop 1 ss) w vars (meant w c.args.found)) (sized w.array_limit) (c.in_err-last.ensures w ss vars lent) in
    search (rules, fails)

pub returns : goal.returns
unfolding others tail
returns g c w ss vars same lent = rw (c.in_ok-last.ensures w ss vars lent, same) (c.sized.ensures w)
