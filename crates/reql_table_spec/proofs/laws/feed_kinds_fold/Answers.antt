use Rattle.reql_table_spec.proofs.Folding.{kinds_fold}
use Rattle.reql_table_spec.proofs.laws.feed_kinds_fold.Goals as goal

pub returns : goal.returns
returns c = kinds_fold
