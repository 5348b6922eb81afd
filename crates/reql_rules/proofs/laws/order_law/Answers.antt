use Rattle.reql_rules.proofs.Ordered.{sorts_stably}
use Rattle.reql_rules.proofs.laws.order_law.Goals as goal

pub returns : goal.returns
returns c = sorts_stably
