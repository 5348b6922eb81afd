use Rattle.reql_operand.specs.Tables.{seen}
use Rattle.reql_apply.proofs.Headed.{headed}
use Rattle.reql_apply.proofs.firsts.order_by_rule.Goals as goal

pub returns-in-len1-up : goal.returns-in-len1-up
returns-in-len1-up g c calls h =
    rw (headed c.args.args.now c.source-item.result c.in-len1-up.len_at_least c.source-item.is) (c.order_by.ensures calls h)
