use Rattle.std.proofs.Common.{rules}
use Rattle.reql_value_spec.specs.Called.{answer_key}
use Rattle.reql_operand.specs.Seen.{shown}
use Rattle.reql_apply_group.proofs.grouping.group_by_key.Goals as goal

pub returns : goal.returns
returns g c w calls means = c.group.ensures (answer_key calls (shown w c.args.key.now)) (record { answers = λ x r p. search (rules, p, means) })
