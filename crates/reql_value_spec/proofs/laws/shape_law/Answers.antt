use Rattle.reql_value_spec.proofs.Shaped.{by_document}
use Rattle.reql_value_spec.proofs.laws.shape_law.Goals as goal

pub returns : goal.returns
returns c = by_document
