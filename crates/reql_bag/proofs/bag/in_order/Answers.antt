use Rattle.reql_bag.proofs.Ordered.{own_sorting, rising_result}
use Rattle.reql_bag.proofs.bag.in_order.Goals as goal

pub returns-then-is_rising-clause-items : goal.returns-then-is_rising-clause-items
returns-then-is_rising-clause-items c = own_sorting c.args.items (rw c.if-is_rising.true at c.is_rising.ensures)

pub returns-clause-rising : goal.returns-clause-rising
returns-clause-rising c = rising_result c.resorted.result c.args.items c.resorted.ensures
