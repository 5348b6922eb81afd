use Rattle.std.proofs.Common.{rules}
use Rattle.reql_value_spec.specs.Called.{answer_test}
use Rattle.reql_operand.specs.Seen.{shown}
use Rattle.reql_apply_seq.proofs.filtering.filter_items.Goals as goal

pub returns : goal.returns
returns g c = λ w calls h. c.filter.ensures (answer_test calls (shown w c.args.f.now)) (search rules)
