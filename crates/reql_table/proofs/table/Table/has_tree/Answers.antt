use Rattle.reql_table.proofs.Owned.{own_trees}
use Rattle.reql_table.proofs.table.Table.has_tree.Goals as goal

pub returns-clause-own : goal.returns-clause-own
returns-clause-own c = own_trees c.args.self.now c.all_indexes-indexes.ensures.numbers
