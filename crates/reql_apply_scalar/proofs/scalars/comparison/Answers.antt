use Rattle.std.proofs.Common.{rules, ap, sym, ◌∙◌, Ok}
use Rattle.reql_datum.specs.Answer.{◌>>=◌}
use Rattle.reql_datum.specs.Plain.{boolean}
use Rattle.reql_rules.specs.Relations.{relate}
use Rattle.reql_value_spec.specs.Wanted.{as_data}
use Rattle.reql_operand.specs.Seen.{all_shown}
use Rattle.reql_operand.proofs.Steps.{fails_on}
use Rattle.reql_apply_scalar.proofs.scalars.comparison.Goals as goal

pub returns-in_err-items : goal.returns-in_err-items
returns-in_err-items c w calls opts =
    let fails = fails_on c.in_err-items.field-0.0 (as_data (all_shown w c.args.args.now)) (λ ds. Ok (boolean (relate c.args.op ds))) (c.in_err-items.ensures w) in
    search (rules, fails)

pub returns : goal.returns
returns c w calls opts = ap (λ r. r >>= λ ds. Ok (boolean (relate c.args.op ds))) (c.in_ok-items.ensures w) ∙ ap (λ b. Ok (boolean b)) (sym c.relate.ensures)
