use Rattle.reql_bag.proofs.Rising as rising
use Rattle.reql_bag.proofs.laws.bag_laws.Goals as goal

pub returns-clause-by_counts : goal.returns-clause-by_counts
returns-clause-by_counts c = rising.by_counts
