use Rattle.reql_rules.proofs.Groups.{hold_each_once}
use Rattle.reql_rules.proofs.laws.group_law.Goals as goal

pub returns : goal.returns
returns c = hold_each_once
