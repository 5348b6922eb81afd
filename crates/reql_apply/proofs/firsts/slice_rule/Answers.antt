use Rattle.reql_operand.specs.Tables.{seen}
use Rattle.reql_apply.proofs.Headed.{headed}
use Rattle.reql_apply.proofs.firsts.slice_rule.Goals as goal

pub returns-in-len1-up : goal.returns-in-len1-up
returns-in-len1-up g c calls =
    rw (headed c.args.args.now c.source-item.result c.in-len1-up.len_at_least c.source-item.is) (c.slice.ensures calls)
