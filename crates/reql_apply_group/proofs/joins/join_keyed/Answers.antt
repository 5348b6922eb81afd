use Rattle.std.proofs.Common.{rules}
use Rattle.reql_value_spec.specs.Called.{answer_key}
use Rattle.reql_operand.specs.Seen.{shown}
use Rattle.reql_apply_group.proofs.joins.join_keyed.Goals as goal

pub returns : goal.returns
returns g c w calls means h rows = c.eq_join.ensures (answer_key calls (shown w c.args.key.now)) (record { answers = λ x r p. search (rules, p, means) }) h rows
