use Rattle.std.proofs.Common.{rules}
use Rattle.reql_rules.specs.Numbers.{arith}
use Rattle.reql_operand.specs.Seen.{all_shown}
use Rattle.reql_operand.proofs.Steps.{fails_on}
use Rattle.reql_apply_scalar.specs.Operands.{operands}
use Rattle.reql_apply_scalar.proofs.adding.run.Goals as goal

pub returns-in_err-items : goal.returns-in_err-items
returns-in_err-items c w =
    let fails = fails_on c.in_err-items.field-0.0 (operands c.args.want (all_shown w c.args.args.now)) (arith c.args.op) (c.in_err-items.ensures w) in
    search (rules, fails)

pub returns : goal.returns
returns c w = rw (c.in_ok-items.ensures w) c.arith.ensures
