use Rattle.reql_operand.specs.Tables.{seen}
use Rattle.reql_apply.proofs.Headed.{headed}
use Rattle.reql_apply.proofs.firsts.get_all_rule.Goals as goal

pub returns-in-len1-up : goal.returns-in-len1-up
returns-in-len1-up g c calls =
    rw (headed c.args.args.now c.table-item.result c.in-len1-up.len_at_least c.table-item.is) (c.get_all.ensures calls)
