use Rattle.std.proofs.Common.{rules}
use Rattle.reql_value_spec.specs.Called.{answer}
use Rattle.reql_value_spec.specs.Wanted.{as_data}
use Rattle.reql_operand.specs.Seen.{shown, all_shown}
use Rattle.reql_operand.proofs.Steps.{fails_on}
use Rattle.reql_apply_scalar.proofs.scalars.called.Goals as goal

pub returns-in_err-items : goal.returns-in_err-items
returns-in_err-items g c w calls answers =
    let fails = fails_on c.in_err-items.field-0.0 (as_data (all_shown w c.args.args.now)) (λ ds. answer calls (shown w c.args.function.now) ds) (c.in_err-items.ensures w) in
    search (rules, fails)

pub returns : goal.returns
returns g c w calls answers = rw (c.in_ok-items.ensures w) (rw c.as_slice.ensures at (c.answer.ensures w calls answers))
