use Rattle.reql_table_spec.proofs.Weaves.{feeds_fold}
use Rattle.reql_table_spec.proofs.laws.feeds_of_histories_fold.Goals as goal

pub returns : goal.returns
returns c = feeds_fold
