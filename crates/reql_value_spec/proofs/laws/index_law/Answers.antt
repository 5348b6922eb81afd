use Rattle.reql_value_spec.proofs.IndexLists.{in_order}
use Rattle.reql_value_spec.proofs.laws.index_law.Goals as goal

pub returns : goal.returns
returns c = in_order
