use Rattle.std.proofs.Common.{rules}
use Rattle.reql_value_spec.specs.Called.{answer_two}
use Rattle.reql_operand.specs.Seen.{shown}
use Rattle.reql_apply_group.proofs.joins.join_items.Goals as goal

pub returns : goal.returns
returns g c w calls means = c.join.ensures (answer_two calls (shown w c.args.f.now)) (record { answers = λ x y r p. search (rules, p, means) })
