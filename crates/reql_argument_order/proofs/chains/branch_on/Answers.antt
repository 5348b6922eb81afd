use Rattle.std.proofs.Common.{rules, ◌∙◌, Ok, ap}
use Rattle.reql_operand.specs.Seen.{meant}
use Rattle.reql_argument_order.proofs.Places.{not_one}
use Rattle.reql_argument_order.proofs.Steps.{first_no_truth, first_true, first_false}
use Rattle.reql_argument_order.proofs.chains.branch_on.Goals as goal

pub returns-in_err-passed : goal.returns-in_err-passed
returns-in_err-passed g c w ss vars lent =
    let fails = first_no_truth ss w vars (meant w c.args.found) c.in_err-passed.field-0.0 (not_one ss c.args.count lent.counted c.if-count-lt2.false) (c.in_err-passed.ensures w) in
    search (rules, fails)

pub returns-then-passed : goal.returns-then-passed
returns-then-passed g c w ss vars lent =
    rw (first_true ss w vars (meant w c.args.found) (not_one ss c.args.count lent.counted c.if-count-lt2.false) (c.in_ok-passed.ensures w ∙ ap Ok c.if-passed.true)) (lent.answers _ _ c.eval.ensures)

pub returns : goal.returns
returns g c w ss vars lent =
    rw (first_false ss w vars (meant w c.args.found) (not_one ss c.args.count lent.counted c.if-count-lt2.false) (c.in_ok-passed.ensures w ∙ ap Ok c.if-passed.false)) (c.branches.ensures w ss vars lent)
