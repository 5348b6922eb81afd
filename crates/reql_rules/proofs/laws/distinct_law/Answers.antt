use Rattle.reql_rules.proofs.Distinct.{holds_each_once}
use Rattle.reql_rules.proofs.laws.distinct_law.Goals as goal

pub returns : goal.returns
returns c = holds_each_once
