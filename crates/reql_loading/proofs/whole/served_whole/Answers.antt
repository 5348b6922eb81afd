use Rattle.reql_loading.proofs.Ones.{one}
use Rattle.reql_loading.proofs.whole.served_whole.Goals as goal

pub returns-in-len1 : goal.returns-in-len1
returns-in-len1 c = λ is. (c.member-item.result, one c.args.members.now c.member-item.result c.in-len1.len_at_least c.in-len1.len_below c.member-item.is, c.is_whole.ensures is)
